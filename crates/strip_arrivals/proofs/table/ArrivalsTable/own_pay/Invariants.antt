use Rattle.std.proofs.Common.{◌≡◌, ◌*◌, ◌≤◌, ◌++◌, length, sum_by}
use Rattle.strip_mask.specs.Set.{members}
use Rattle.strip_mask.specs.Iter.{rest_of}
use Rattle.strip_arrivals.proofs.Own.{own}
use Rattle.strip_arrivals.proofs.table.ArrivalsTable.own_pay.Given as goal

-- what these actors get; they and those to come are the group
abbrev pub invariant-loop-actor : goal.invariant-loop-actor
invariant-loop-actor l = record {
  so_far : l.pay ≡ sum_by (own l.self l.set.0 l.fn.group.0) l.yielded;
  small : l.pay ≤ 1267200000000000 * length l.yielded;
  turns : l.yielded ++ rest_of l.actor-iterator ≡ members l.fn.group.0;
}
