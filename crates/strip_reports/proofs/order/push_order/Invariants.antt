use Rattle.std.proofs.Common.{◌≡◌, ◌*◌, ◌++◌, map, codes}
use Rattle.std.specs.List.{flat_map, range_with_len}
use Rattle.strip_reports.specs.Board.{order_table}
use Rattle.strip_reports.proofs.order.push_order.Given as goal

abbrev pub invariant-loop-table : goal.invariant-loop-table
invariant-loop-table l = l.page.items ≡ (l.fn.page.items ++ codes "<h2>Shooting order</h2>\n")
    ++ flat_map (order_table l.inst l.order) (map (λ table. table * 24) (range_with_len 0 l.table))
