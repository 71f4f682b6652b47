use Rattle.std.proofs.Common.{◌++◌, [], ◌∷◌, map, length, append-nil, sym, ap, ◌∙◌}
use Rattle.std.specs.List.{range_with_len}
use Rattle.std.proofs.lemmas.Result.{on_ok_weaker}
use Rattle.strip_reports.specs.Html.{begin_text, end_tag, row_text, rows_text, totals_tag}
use Rattle.strip_reports.specs.Actors.{actor_cells, actor_heads, total_cells}
use Rattle.strip_reports.proofs.Pieces.{five_made}
use Rattle.strip_reports.proofs.actors.push_table.Goals as goal

pub returns : goal.returns
returns c =
    let old = c.args.page.now.items in
    let heads = begin_text actor_heads in
    let rows = rows_text (map (actor_cells c.args.inst.now c.args.crews.now) (range_with_len 0 (length c.args.inst.now.actors))) in
    let last = row_text (total_cells c.in_ok-total.total) in
    let begun = c.in_ok-total.ensures.rows ∙ ap (λ text. text ++ rows) c.in_ok-push_heads.ensures in
    let totals = c.in_ok-begin_totals.ensures ∙ ap (λ text. text ++ totals_tag) begun in
    let all = c.in_ok-push_total.ensures ∙ ap (λ text. text ++ last) totals in
    let total = sym (append-nil last) ∙ ap (λ total. rows_text (total_cells total ∷ [])) c.in_ok-total.ensures.sums in
    on_ok_weaker c.end_table.result (λ is. is ∙ ap (λ text. text ++ end_tag) all ∙ five_made old heads rows totals_tag last end_tag
    ∙ ap (λ row. old ++ (heads ++ rows ++ totals_tag ++ row ++ end_tag)) total) c.end_table.ensures
