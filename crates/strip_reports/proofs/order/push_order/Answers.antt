use Rattle.std.proofs.Common.{◌≡◌, ◌+◌, ◌*◌, ◌/◌, ◌++◌, append_assoc, length, map, max, ap, ◌∙◌, codes, arith}
use Rattle.std.specs.List.{flat_map, range_with_len}
use Rattle.strip_reports.specs.Board.{order_table}
use Rattle.strip_reports.proofs.Pieces.{place_next}
use Rattle.strip_reports.proofs.order.push_order.Goals as goal

pub loop-table-preserved : goal.loop-table-preserved
loop-table-preserved c =
    let table = order_table c.args.inst.now c.args.order.now in
    c.in_ok-push_table.ensures ∙ ap (λ text. text ++ table (c.loop-table.table * 24)) c.loop-table.invariant
    ∙ place_next table (λ table. table * 24) (c.args.page.now.items ++ codes "<h2>Shooting order</h2>\n") c.loop-table.table

pub returns : goal.returns
returns c =
    let table = order_table c.args.inst.now c.args.order.now in
    let all : c.loop-table.table ≡ max 1 ((length c.args.inst.now.actors + 23) / 24) = omega arith in
    c.loop-table.invariant ∙ append_assoc c.args.page.now.items (codes "<h2>Shooting order</h2>\n") (flat_map table (map (λ table. table * 24) (range_with_len 0 c.loop-table.table)))
    ∙ ap (λ n. c.args.page.now.items ++ (codes "<h2>Shooting order</h2>\n" ++ flat_map table (map (λ table. table * 24) (range_with_len 0 n)))) all
