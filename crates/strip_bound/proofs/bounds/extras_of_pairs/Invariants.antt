use Rattle.std.proofs.Common.{◌≡◌, ◌+◌, length}
use Rattle.strip_mask.specs.Set.{LiesBelow, members, size}
use Rattle.strip_film.specs.Shoot.{on_location}
use Rattle.strip_bound.specs.Bounds.{pairs_extra}
use Rattle.strip_bound.proofs.bounds.extras_of_pairs.Given as goal

-- what was added, and the extras of the actors that are left
abbrev pub invariant-loop-q : goal.invariant-loop-q
invariant-loop-q l = record {
  sum : l.sum + pairs_extra l.film l.fn.q.0 (members l.left.0) ≡ pairs_extra l.film l.fn.q.0 (members (on_location l.film l.fn.q.0));
  located : LiesBelow (length l.film.rates) l.left.0;
}

abbrev pub decreases-loop-q : goal.decreases-loop-q
decreases-loop-q l = size l.left.0
