use Rattle.std.proofs.Common.{◌++◌, codes, map, ap, ◌∙◌}
use Rattle.strip_reports.specs.Cells.{cell_data}
use Rattle.strip_reports.specs.Html.{row_text}
use Rattle.strip_reports.proofs.Pieces.{three_made}
use Rattle.strip_reports.proofs.html.begin_table.Goals as goal

pub returns : goal.returns
returns c =
    let row = row_text (map cell_data c.args.heads.now) in
    c.in_ok-extend_from_slice-2.ensures.items
    ∙ ap (λ text. text ++ codes "</thead>\n<tbody>\n") (c.in_ok-push_row.ensures ∙ ap (λ text. text ++ row) c.in_ok-extend_from_slice.ensures.items)
    ∙ three_made c.args.page.now.items (codes "<table>\n<thead>\n") row (codes "</thead>\n<tbody>\n")
