use Rattle.std.proofs.Common.{map, ap}
use Rattle.strip_reports.specs.Board.{actor_name}
use Rattle.strip_reports.specs.Cells.{cell_data}
use Rattle.strip_reports.specs.Html.{Upright}
use Rattle.strip_reports.proofs.Columns.{cell_next}
use Rattle.strip_reports.proofs.order.push_names.Goals as goal

pub loop-column-preserved : goal.loop-column-preserved
loop-column-preserved c =
    cell_next (λ actor. Upright (actor_name c.args.inst.now actor)) (map cell_data c.args.cells.now.items) c.loop-column.cells.items _ _
    c.args.start c.loop-column.column c.in_ok-push.ensures.items c.loop-column.invariant (ap Upright c.actor_name.ensures)
