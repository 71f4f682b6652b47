use Rattle.std.proofs.Common.{◌≡◌, ◌++◌, map}
use Rattle.std.specs.List.{range_with_len}
use Rattle.strip_reports.specs.Board.{actor_name}
use Rattle.strip_reports.specs.Cells.{cell_data}
use Rattle.strip_reports.specs.Html.{Upright}
use Rattle.strip_reports.proofs.order.push_names.Given as goal

abbrev pub invariant-loop-column : goal.invariant-loop-column
invariant-loop-column l = map cell_data l.cells.items
    ≡ map cell_data l.fn.cells.items ++ map (λ actor. Upright (actor_name l.inst actor)) (range_with_len l.start l.column)
