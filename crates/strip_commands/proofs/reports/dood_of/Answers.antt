use Rattle.std.proofs.Common.{◌∙◌, inl}
use Rattle.strip_reports.specs.Text.{dood_rows}
use Rattle.strip_answer.specs.Ending.{answer_text}
use Rattle.strip_commands.proofs.Reported.{told_by_rows}
use Rattle.strip_commands.proofs.reports.dood_of.Goals as goal

pub returns : goal.returns
returns c =
    let order = c.is_order.ensures.0 c.if-not-is_order.false in
    let text = c.printed.ensures.text ∙ c.in_ok-text.ensures.text in
    inl (record {
      is_order = order;
      done = c.printed.ensures.status;
      text = text;
      pay = told_by_rows c.args.inst.now c.args.order.now (answer_text c.printed.result) (dood_rows c.args.inst.now c.args.order.now) text
          (c.the_total_of_days_is_the_pay.ensures.said c.args.inst.now c.args.order.now c.keeps_limits.ensures order);
    })
