use Rattle.std.proofs.Common.{◌≡◌, ◌++◌, map}
use Rattle.std.specs.List.{range_with_len}
use Rattle.strip_reports.specs.Board.{order_cells}
use Rattle.strip_reports.specs.Html.{rows_text}
use Rattle.strip_reports.proofs.order.push_scenes.Given as goal

abbrev pub invariant-loop-place : goal.invariant-loop-place
invariant-loop-place l = l.page.items
    ≡ l.fn.page.items ++ rows_text (map (order_cells l.inst l.order l.start) (range_with_len 0 l.place))
