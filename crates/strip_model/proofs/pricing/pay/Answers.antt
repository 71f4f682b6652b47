use Rattle.std.proofs.Common.{length, sum_by, sym, refl, arith}
use Rattle.strip_mask.proofs.Sums.{sum_below-zero, sum_below-more}
use Rattle.strip_model.specs.Pay.{day_pay, span}
use Rattle.strip_model.proofs.Counts.{length-order}
use Rattle.strip_model.specs.FilmOf.{film_of}
use Rattle.strip_model.proofs.pricing.pay.Goals as goal

pub pay_of_actor-total-requires : goal.pay_of_actor-total-requires
pay_of_actor-total-requires c = record {
  order = c.requires.known;
  short = omega (arith, length-order (length c.args.inst.now.scenes) c.args.order.now c.requires, c.actors-actor-end.ensures.limits.scene_count.1);
  actor = omega arith;
}

pub overflow_add-total : goal.overflow_add-total
overflow_add-total c = omega (arith, c.pay_of_actor-total.ensures.small, c.actors-actor-end.ensures.limits.actor_count)

pub loop-actor-init : goal.loop-actor-init
loop-actor-init c = record { total = sym (sum_below-zero _); small = omega arith }

pub loop-actor-preserved : goal.loop-actor-preserved
loop-actor-preserved c = record {
  total = rw (sum_below-more c.loop-actor.actor (λ actor. sum_by (day_pay (film_of c.args.inst.now) actor) (span (film_of c.args.inst.now) c.args.order.now actor)))
      (rw (← c.pay_of_actor-total.ensures.pay, ← c.loop-actor.invariant.total) refl);
  small = omega (arith, c.pay_of_actor-total.ensures.small);
}
