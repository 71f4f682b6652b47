use Rattle.std.proofs.Common.{◌+◌, arith, sym, ap, ◌∙◌}
use Rattle.strip_mask.proofs.Sums.{sum_below-zero, sum_below-more}
use Rattle.strip_model.specs.FilmOf.{film_of}
use Rattle.strip_reports.specs.Days.{hold_days, work_days}
use Rattle.strip_reports.specs.Sums.{pay_for}
use Rattle.strip_reports.proofs.sums.total_of.Goals as goal

pub loop-actor-init : goal.loop-actor-init
loop-actor-init c = record {
  work = sym (sum_below-zero _);
  hold = sym (sum_below-zero _);
  pay = sym (sum_below-zero _);
  few_work = omega arith;
  few_hold = omega arith;
  small = omega arith;
}

pub loop-actor-preserved : goal.loop-actor-preserved
loop-actor-preserved c =
    let crews = c.args.crews.now in
    let k = c.loop-actor.actor in
    let work = ap (λ sums. sums.work) c.plus-total.ensures in
    let hold = ap (λ sums. sums.hold) c.plus-total.ensures in
    let pay = ap (λ sums. sums.pay) c.plus-total.ensures in
    record {
      work = work ∙ (λ i. c.loop-actor.invariant.work i + (c.sums_of.ensures.sums i).work) ∙ sym (sum_below-more k (work_days crews));
      hold = hold ∙ (λ i. c.loop-actor.invariant.hold i + (c.sums_of.ensures.sums i).hold) ∙ sym (sum_below-more k (hold_days crews));
      pay = pay ∙ (λ i. c.loop-actor.invariant.pay i + (c.sums_of.ensures.sums i).pay) ∙ sym (sum_below-more k (pay_for (film_of c.args.inst.now) crews));
      few_work = omega (arith, work, c.loop-actor.invariant.few_work, c.sums_of.ensures.work);
      few_hold = omega (arith, hold, c.loop-actor.invariant.few_hold, c.sums_of.ensures.hold);
      small = omega (arith, pay, c.loop-actor.invariant.small, c.sums_of.ensures.pay);
    }
