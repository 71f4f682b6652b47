use Rattle.std.proofs.Common.{sym, refl, arith}
use Rattle.strip_mask.specs.Set.{has}
use Rattle.strip_mask.proofs.Sums.{sum_below-zero, sum_below-more}
use Rattle.strip_model.specs.FilmOf.{film_of}
use Rattle.strip_reports.specs.Days.{rate_by}
use Rattle.strip_reports.proofs.figures.pay_of_day.Goals as goal

pub loop-actor-init : goal.loop-actor-init
loop-actor-init c = record { pay = sym (sum_below-zero _); small = omega arith }

pub loop-actor-preserved : goal.loop-actor-preserved
loop-actor-preserved c = record {
  pay = rw (sum_below-more c.loop-actor.actor (λ actor. rate_by (film_of c.args.inst.now) (has c.args.working.0 actor) (has c.args.held.0 actor) actor))
      (rw (← c.rate_of-pay.ensures.rate, ← c.loop-actor.invariant.pay) refl);
  small = omega (arith, c.rate_of-pay.ensures.small);
}
