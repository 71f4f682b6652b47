use Rattle.std.proofs.Common.{ap, sym, ◌∙◌}
use Rattle.strip_model.specs.declared.pair.Pair.{Pair}
use Rattle.strip_reports.specs.Board.{breaks, warning}
use Rattle.strip_reports.proofs.Warned.{with_text, without_text}
use Rattle.strip_reports.proofs.summary.push_warnings.Goals as goal
use Rattle.strip_reports.proofs.summary.push_warnings.Goals.{then-breaks+in_ok-push_warning, else-breaks}

abbrev none : Pair
none = record { first = 0; then = 0 }

pub loop-pair-preserved : goal.loop-pair-preserved
loop-pair-preserved c =
    let warn = warning c.args.inst.now in
    let test = breaks c.args.order.now in
    elim c.if-breaks.branch [
      | then-breaks+in_ok-push_warning w ↦ with_text warn test c.args.page.now.items c.pairs-pair-items.result.now c.loop-pair.pair-index none
          c.loop-pair-test.true _ _ c.loop-pair.invariant (ap (λ page. page.items) w.page-is ∙ w.in_ok-push_warning.ensures) (sym c.breaks.ensures ∙ w.if-breaks.true)
      | else-breaks w ↦ without_text warn test c.args.page.now.items c.pairs-pair-items.result.now c.loop-pair.pair-index none
          c.loop-pair-test.true _ _ c.loop-pair.invariant (ap (λ page. page.items) w.page-is) (sym c.breaks.ensures ∙ w.if-breaks.false)
    ]
