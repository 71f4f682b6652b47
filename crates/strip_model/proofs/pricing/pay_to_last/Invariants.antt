use Rattle.std.proofs.Common.{◌≡◌, ◌*◌, ◌≤◌, take, sum_by}
use Rattle.strip_model.specs.Pay.{day_pay, works, to_last}
use Rattle.strip_model.specs.FilmOf.{film_of}
use Rattle.strip_model.proofs.pricing.pay_to_last.Given as goal

abbrev pub invariant-loop-scene : goal.invariant-loop-scene
invariant-loop-scene l = record {
  pay : l.pay ≡ sum_by (day_pay (film_of l.inst) l.actor) (take l.scene-index l.order);
  to_last : l.to_last
      ≡ sum_by (day_pay (film_of l.inst) l.actor) (to_last (works (film_of l.inst) l.actor) (take l.scene-index l.order));
  small : l.pay ≤ 99000000000 * l.scene-index;
  within : l.to_last ≤ l.pay;
}
