use Rattle.std.proofs.Common.{◌∙◌, inl}
use Rattle.strip_model.specs.FilmOf.{film_of}
use Rattle.strip_reports.specs.Sheet.{sheet_rows}
use Rattle.strip_answer.specs.Ending.{answer_text}
use Rattle.strip_commands.proofs.Reported.{sheet_total, told_by_rows}
use Rattle.strip_commands.proofs.reports.sheet_of.Goals as goal

pub returns : goal.returns
returns c =
    let order = c.is_order.ensures.0 c.if-not-is_order.false in
    let text = c.printed.ensures.text ∙ c.in_ok-text.ensures.text in
    inl (record {
      is_order = order;
      done = c.printed.ensures.status;
      text = text;
      pay = told_by_rows c.args.inst.now c.args.order.now (answer_text c.printed.result) (sheet_rows c.args.inst.now c.args.order.now) text
          (sheet_total c.args.inst.now c.args.order.now (c.the_total_of_the_sheet_is_the_pay.ensures (film_of c.args.inst.now) c.args.order.now));
    })
