use Rattle.std.proofs.Common.{◌≡◌, ◌++◌, ◌*◌, ◌≤◌, sum_by, slice_index}
use Rattle.strip_mask.specs.Set.{members}
use Rattle.strip_mask.specs.Iter.{rest_of}
use Rattle.strip_bound.specs.Bounds.{days_with_without}
use Rattle.strip_bound.proofs.newcomers.pay_of_company.Given as goal

-- the pay of the actors so far, which stays small; these and those to come are all
abbrev pub invariant-loop-actor : goal.invariant-loop-actor
invariant-loop-actor l = record {
  pay : l.pay ≡ sum_by (λ actor. slice_index l.film.holds actor * days_with_without l.film l.q.0 l.newcomer actor) l.yielded;
  small : l.pay ≤ 19800 * sum_by (slice_index l.film.holds) l.yielded;
  turns : l.yielded ++ rest_of l.actor-iterator ≡ members l.fn.actors.0;
}
