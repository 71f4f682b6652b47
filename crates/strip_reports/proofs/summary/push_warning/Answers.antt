use Rattle.std.proofs.Common.{◌++◌, codes, ap, ◌∙◌}
use Rattle.strip_reports.specs.Html.{isolated}
use Rattle.strip_reports.proofs.Pieces.{five_made}
use Rattle.strip_reports.proofs.summary.push_warning.Goals as goal

pub returns : goal.returns
returns c =
    let page = c.args.page.now.items in
    let begin = codes "<p class=\"warning\">Warning: " in
    let between = codes " has to be shot before " in
    let end = codes ", but this order has it behind.</p>\n" in
    let first = isolated c.name_of.result.now in
    let then = isolated c.name_of-2.result.now in
    c.in_ok-extend_from_slice-3.ensures.items ∙ ap (λ text. text ++ end) (c.in_ok-push_name-2.ensures
    ∙ ap (λ text. text ++ then) (c.in_ok-extend_from_slice-2.ensures.items ∙ ap (λ text. text ++ between) (c.in_ok-push_name.ensures
    ∙ ap (λ text. text ++ first) c.in_ok-extend_from_slice.ensures.items)))
    ∙ five_made page begin first between then end
    ∙ (λ i. page ++ (begin ++ isolated (c.name_of.ensures i) ++ between ++ isolated (c.name_of-2.ensures i) ++ end))
