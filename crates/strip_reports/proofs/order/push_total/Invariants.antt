use Rattle.std.proofs.Common.{◌≡◌, ◌++◌, map}
use Rattle.std.specs.List.{range_with_len}
use Rattle.strip_reports.specs.Cells.{cell_data}
use Rattle.strip_reports.specs.Html.{Empty}
use Rattle.strip_reports.proofs.order.push_total.Given as goal

abbrev pub invariant-loop-column : goal.invariant-loop-column
invariant-loop-column l = map cell_data l.cells.items
    ≡ map cell_data l.initial.cells.items ++ map (λ actor. Empty) (range_with_len l.start l._column)
