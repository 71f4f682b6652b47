use Rattle.std.proofs.Common.{◌++◌, ap, ◌∙◌}
use Rattle.strip_reports.specs.Board.{order_cells}
use Rattle.strip_reports.specs.Html.{row_text}
use Rattle.strip_reports.proofs.Pieces.{place_next}
use Rattle.strip_reports.proofs.order.push_scenes.Goals as goal

pub loop-place-preserved : goal.loop-place-preserved
loop-place-preserved c =
    let cells = order_cells c.args.inst.now c.args.order.now c.args.start in
    c.in_ok-push_scene.ensures ∙ ap (λ text. text ++ row_text (cells c.loop-place.place)) c.loop-place.invariant
    ∙ place_next row_text cells c.args.page.now.items c.loop-place.place
