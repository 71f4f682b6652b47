use Rattle.std.proofs.Common.{◌≡◌, ℕ, ◌<◌, false}
use Rattle.strip_reduce.specs.Search.{can_join_marked}
use Rattle.strip_reduce.proofs.search.equal_behind.Given as goal

abbrev pub invariant-loop-b : goal.invariant-loop-b
invariant-loop-b l = (j : ℕ) → l.a < j → j < l.b → can_join_marked l.casts l.marks l.a j ≡ false
