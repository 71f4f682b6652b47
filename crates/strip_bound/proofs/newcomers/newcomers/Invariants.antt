use Rattle.std.proofs.Common.{◌≡◌, filter}
use Rattle.strip_mask.specs.Set.{numbers_below}
use Rattle.strip_bound.specs.Bounds.{is_newcomer, set_of}
use Rattle.strip_bound.proofs.newcomers.newcomers.Given as goal

-- the newcomers so far
abbrev pub invariant-loop-actor : goal.invariant-loop-actor
invariant-loop-actor l = l.newcomers.0 ≡ set_of (filter (is_newcomer l.film l.fn.q.0) (numbers_below l.actor))
