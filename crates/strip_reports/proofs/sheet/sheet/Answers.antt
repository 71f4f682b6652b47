use Rattle.std.proofs.Common.{◌≡◌, ◌∙◌, ◌+◌, ◌++◌, length, sym, ap, arith, append-nil}
use Rattle.std.proofs.lemmas.Result.{IfOk-weaker}
use Rattle.strip_mask.specs.Sums.{sum_below}
use Rattle.strip_mask.proofs.Sums.{sum_below-zero, sum_below-more}
use Rattle.strip_model.proofs.Counts.{length-order}
use Rattle.strip_model.specs.FilmOf.{film_of}
use Rattle.strip_text.specs.Rows.{csv_row}
use Rattle.strip_reports.specs.Days.{pay_at}
use Rattle.strip_reports.specs.Sheet.{header_row, sheet_text}
use Rattle.strip_reports.specs.declared.figures.Figures.{Figures}
use Rattle.strip_reports.proofs.Added.{row_added, whole}
use Rattle.strip_reports.proofs.sheet.sheet.Goals as goal

pub loop-place-init : goal.loop-place-init
loop-place-init c = record {
  text = c.in_ok-push_header.ensures ∙ ap (λ text. text ++ csv_row header_row) c.new-text.ensures ∙ sym (append-nil (csv_row header_row));
  pay = sym (sum_below-zero _);
  small = omega arith;
}

pub figures_at-figures-requires-clause-short : goal.figures_at-figures-requires-clause-short
figures_at-figures-requires-clause-short c =
    omega (arith, length-order (length c.args.inst.now.scenes) c.args.order.now c.requires.order, c.keeps_limits.ensures.scene_count.1)

pub overflow_add-pay : goal.overflow_add-pay
overflow_add-pay c =
    omega (
      arith,
      length-order (length c.args.inst.now.scenes) c.args.order.now c.requires.order,
      c.keeps_limits.ensures.scene_count.1,
      c.loop-place.invariant.small,
      c.figures_at-figures.ensures.small,
    )

pub loop-place-preserved : goal.loop-place-preserved
loop-place-preserved c = record {
  text = row_added (csv_row header_row) c.args.inst.now c.args.order.now c.loop-place.place _ _ _ _
      c.in_ok-push_scene.ensures c.loop-place.invariant.text c.name_of-name.ensures c.figures_at-figures.ensures.figures;
  pay = ap (λ pay. pay + c.figures_at-figures.result.pay) c.loop-place.invariant.pay
      ∙ ap (λ (figures : Figures). sum_below c.loop-place.place (pay_at (film_of c.args.inst.now) c.args.order.now) + figures.pay) c.figures_at-figures.ensures.figures
      ∙ sym (sum_below-more c.loop-place.place (pay_at (film_of c.args.inst.now) c.args.order.now));
  small = omega (arith, c.loop-place.invariant.small, c.figures_at-figures.ensures.small);
}

pub days_of-requires-clause-short : goal.days_of-requires-clause-short
days_of-requires-clause-short c =
    omega (arith, length-order (length c.args.inst.now.scenes) c.args.order.now c.requires.order, c.keeps_limits.ensures.scene_count.1)

pub returns : goal.returns
returns c =
    let written = c.in_ok-push_total.ensures
    ∙ whole c.args.inst.now c.args.order.now c.loop-place.place c.days_of.result c.loop-place.pay c.loop-place.text c.requires.order
    (omega (arith, c.loop-place-test.false)) c.loop-place.invariant.text c.days_of.ensures.days c.loop-place.invariant.pay in
    record {
      text = IfOk-weaker c.into_bytes.result (λ text. text.items ≡ c.push_total.new.text) (λ text. text.items ≡ sheet_text c.args.inst.now c.args.order.now)
          (λ text same. same ∙ written) c.into_bytes.ensures;
    }
