use Rattle.std.proofs.Common.{◌+◌, map, ◌∙◌}
use Rattle.strip_model.specs.FilmOf.{film_of}
use Rattle.strip_reports.specs.Board.{mark_at, mark_of}
use Rattle.strip_reports.specs.Cells.{cell_data}
use Rattle.strip_reports.proofs.Columns.{cell_next}
use Rattle.strip_reports.proofs.order.push_marks.Goals as goal

pub loop-column-preserved : goal.loop-column-preserved
loop-column-preserved c =
    let actor = c.args.start + c.loop-column.column in
    cell_next (mark_at (film_of c.args.inst.now) c.args.order.now c.args.place) (map cell_data c.args.cells.now.items) c.loop-column.cells.items _ _
    c.args.start c.loop-column.column c.in_ok-push.ensures.items c.loop-column.invariant
    (c.mark.ensures ∙ (λ i. mark_of (c.cast_of-works.ensures.cast actor i) (c.held_at-held.ensures.held actor i)))
