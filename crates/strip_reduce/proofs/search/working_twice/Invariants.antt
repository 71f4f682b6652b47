use Rattle.std.proofs.Common.{◌≡◌, ℕ, nat_le}
use Rattle.strip_mask.specs.Set.{has}
use Rattle.strip_reduce.proofs.Searching.{works_below}
use Rattle.strip_reduce.proofs.search.working_twice.Given as goal

-- who works in one of the scenes so far, and who in two
abbrev pub invariant-loop-cast : goal.invariant-loop-cast
invariant-loop-cast l = record {
  once : (actor : ℕ) → has l.once.0 actor ≡ nat_le 1 (works_below l.casts l.cast-index actor);
  twice : (actor : ℕ) → has l.twice.0 actor ≡ nat_le 2 (works_below l.casts l.cast-index actor);
}
