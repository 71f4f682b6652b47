use Rattle.std.proofs.Common.{◌≡◌, ◌*◌, ◌≤◌, sum_by}
use Rattle.strip_mask.specs.Sums.{sum_below}
use Rattle.strip_model.specs.Pay.{day_pay, span}
use Rattle.strip_model.specs.FilmOf.{film_of}
use Rattle.strip_model.proofs.pricing.pay.Given as goal

abbrev pub invariant-loop-actor : goal.invariant-loop-actor
invariant-loop-actor l = record {
  total : l.total ≡ sum_below l.actor
      (λ actor. sum_by (day_pay (film_of l.inst) actor) (span (film_of l.inst) l.order actor));
  small : l.total ≤ l.actor * 19800000000000;
}
