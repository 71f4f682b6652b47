use Rattle.std.proofs.Common.{◌≡◌, ◌≤◌, ◌*◌}
use Rattle.strip_mask.specs.Sums.{sum_below}
use Rattle.strip_model.specs.FilmOf.{film_of}
use Rattle.strip_reports.specs.Days.{hold_days, work_days}
use Rattle.strip_reports.specs.Sums.{pay_for}
use Rattle.strip_reports.proofs.sums.total_of.Given as goal

abbrev pub invariant-loop-actor : goal.invariant-loop-actor
invariant-loop-actor l = record {
  work : l.total.work ≡ sum_below l.actor (work_days l.crews);
  hold : l.total.hold ≡ sum_below l.actor (hold_days l.crews);
  pay : l.total.pay ≡ sum_below l.actor (pay_for (film_of l.inst) l.crews);
  few_work : l.total.work ≤ l.actor * 19800;
  few_hold : l.total.hold ≤ l.actor * 19800;
  small : l.total.pay ≤ l.actor * 39600000000000;
}
