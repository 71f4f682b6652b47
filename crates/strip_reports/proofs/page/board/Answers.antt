use Rattle.std.proofs.Common.{◌++◌, ap, ◌∙◌}
use Rattle.strip_proof.specs.Plan.{plan_data}
use Rattle.strip_reports.specs.Actors.{actors_part}
use Rattle.strip_reports.specs.Board.{order_part, summary, warnings}
use Rattle.strip_reports.specs.Frame.{page_end, page_head}
use Rattle.strip_reports.proofs.page.board.Goals as goal

pub returns : goal.returns
returns c =
    let inst = c.args.inst.now in
    let plan = plan_data c.args.plan.now in
    let head = c.in_ok-push_head.ensures ∙ ap (λ text. text ++ page_head) c.new-page.ensures.items in
    let said = c.in_ok-push_summary.ensures ∙ ap (λ text. text ++ summary inst plan) head in
    let warned = c.in_ok-push_warnings.ensures ∙ (λ i. said i ++ warnings inst (c.deref.ensures.value i)) in
    let ordered = c.in_ok-push_order.ensures ∙ (λ i. warned i ++ order_part inst (c.deref-2.ensures.value i)) in
    let earned = c.in_ok-push_actors.ensures ∙ (λ i. ordered i ++ actors_part inst (c.deref-3.ensures.value i)) in
    c.in_ok-push_end.ensures ∙ ap (λ text. text ++ page_end) earned
