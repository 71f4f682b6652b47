use Rattle.std.proofs.Common.{◌≡◌, ◌+◌, length, map}
use Rattle.strip_mask.specs.Set.{LiesBelow, members, size}
use Rattle.strip_bound.specs.Bounds.{by_six, groups_extra, groups_of, set_of}
use Rattle.strip_bound.proofs.bounds.extras_of_groups.Given as goal

-- what was added, and the extras of the actors that are left
abbrev pub invariant-loop-q : goal.invariant-loop-q
invariant-loop-q l = record {
  sum : l.sum + groups_extra l.film l.fn.q.0 (map set_of (by_six (members l.left.0))) ≡ groups_extra l.film l.fn.q.0 (groups_of l.film l.fn.q.0);
  located : LiesBelow (length l.film.rates) l.left.0;
}

abbrev pub decreases-loop-q : goal.decreases-loop-q
decreases-loop-q l = size l.left.0
