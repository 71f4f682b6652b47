use Rattle.std.proofs.Common.{◌++◌, length, map, ap, ◌∙◌}
use Rattle.std.specs.List.{range_with_len}
use Rattle.std.proofs.lemmas.Result.{on_ok_weaker}
use Rattle.strip_reports.specs.Board.{order_cells, order_heads, order_totals}
use Rattle.strip_reports.specs.Html.{begin_text, end_tag, rows_text, totals_tag}
use Rattle.strip_reports.proofs.Pieces.{five_made}
use Rattle.strip_reports.proofs.order.push_table.Goals as goal

pub returns : goal.returns
returns c =
    let inst = c.args.inst.now in
    let order = c.args.order.now in
    let begin = begin_text (order_heads inst c.args.start) in
    let rows = rows_text (map (order_cells inst order c.args.start) (range_with_len 0 (length order))) in
    let totals = rows_text (order_totals inst order c.args.start) in
    let before = c.in_ok-push_total.ensures ∙ ap (λ text. text ++ totals) (c.in_ok-begin_totals.ensures
    ∙ ap (λ text. text ++ totals_tag) (c.in_ok-push_scenes.ensures ∙ ap (λ text. text ++ rows) c.in_ok-push_heads.ensures)) in
    on_ok_weaker c.end_table.result
    (λ written. written ∙ ap (λ text. text ++ end_tag) before ∙ five_made c.args.page.now.items begin rows totals_tag totals end_tag)
    c.end_table.ensures
