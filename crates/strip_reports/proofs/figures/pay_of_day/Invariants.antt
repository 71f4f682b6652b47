use Rattle.std.proofs.Common.{◌≡◌, ◌*◌, ◌≤◌}
use Rattle.strip_mask.specs.Set.{has}
use Rattle.strip_mask.specs.Sums.{sum_below}
use Rattle.strip_model.specs.FilmOf.{film_of}
use Rattle.strip_reports.specs.Days.{rate_by}
use Rattle.strip_reports.proofs.figures.pay_of_day.Given as goal

abbrev pub invariant-loop-actor : goal.invariant-loop-actor
invariant-loop-actor l = record {
  pay : l.pay ≡ sum_below l.actor (λ actor. rate_by (film_of l.inst) (has l.fn.working.0 actor) (has l.fn.held.0 actor) actor);
  small : l.pay ≤ l.actor * 1000000000;
}
