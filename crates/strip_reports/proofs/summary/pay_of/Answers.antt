use Rattle.std.proofs.Common.{◌≡◌, ◌+◌, length, sym, ap, ◌∙◌, arith}
use Rattle.strip_mask.specs.Sums.{sum_below}
use Rattle.strip_mask.proofs.Sums.{sum_below-zero, sum_below-more}
use Rattle.strip_model.proofs.Counts.{length-order}
use Rattle.strip_model.specs.FilmOf.{film_of}
use Rattle.strip_reports.specs.Days.{pay_at}
use Rattle.strip_reports.specs.declared.figures.Figures.{Figures}
use Rattle.strip_reports.proofs.summary.pay_of.Goals as goal

pub loop-place-init : goal.loop-place-init
loop-place-init c = record { pay = sym (sum_below-zero _); small = omega arith }

pub figures_at-pay-requires-clause-short : goal.figures_at-pay-requires-clause-short
figures_at-pay-requires-clause-short c =
    omega (arith, length-order (length c.args.inst.now.scenes) c.args.order.now c.requires, c.keeps_limits.ensures.scene_count.1)

pub overflow_add-pay : goal.overflow_add-pay
overflow_add-pay c =
    omega (
      arith,
      length-order (length c.args.inst.now.scenes) c.args.order.now c.requires,
      c.keeps_limits.ensures.scene_count.1,
      c.loop-place.invariant.small,
      c.figures_at-pay.ensures.small,
    )

pub loop-place-preserved : goal.loop-place-preserved
loop-place-preserved c = record {
  pay = ap (λ pay. pay + c.figures_at-pay.result.pay) c.loop-place.invariant.pay
      ∙ ap (λ (figures : Figures). sum_below c.loop-place.place (pay_at (film_of c.args.inst.now) c.args.order.now) + figures.pay) c.figures_at-pay.ensures.figures
      ∙ sym (sum_below-more c.loop-place.place (pay_at (film_of c.args.inst.now) c.args.order.now));
  small = omega (arith, c.loop-place.invariant.small, c.figures_at-pay.ensures.small);
}

pub returns : goal.returns
returns c =
    let film = film_of c.args.inst.now in
    let order = c.args.order.now in
    let all : c.loop-place.place ≡ length order = omega (arith, c.loop-place.auto.place-end, c.loop-place-test.false) in
    c.loop-place.invariant.pay ∙ ap (λ places. sum_below places (pay_at film order)) all ∙ c.the_total_of_the_sheet_is_the_pay.ensures film order
