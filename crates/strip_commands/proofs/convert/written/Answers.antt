use Rattle.std.proofs.Common.{◌≡◌, ◌∙◌, ◌++◌, ℕ, List, length, refl, ap, arith}
use Rattle.strip_proof.specs.Plan.{plan_data}
use Rattle.strip_proof.specs.Rows.{head_rows, lines_text, plan_text}
use Rattle.strip_proof.specs.Text.{says}
use Rattle.strip_text.specs.Rows.{csv_text}
use Rattle.strip_commands.proofs.convert.written.Goals as goal

pub returns : goal.returns
returns c =
    let plan = plan_data c.args.plan in
    let count : c.len.result ≡ length plan.lines = omega (arith, c.len.ensures, c.args.plan.lines.ok.0) in
    let text : c.in_ok-text.text.items ++ lines_text plan.lines ≡ plan_text c.args.inst.now plan
    = ap (λ (head : List ℕ). head ++ lines_text plan.lines) (c.in_ok-text.ensures ∙ ap (λ (n : ℕ). csv_text (head_rows c.args.inst.now plan n)) count) in
    record {
      done = refl;
      text = text;
      same = ap (says c.args.inst.now) text ∙ c.written_plans_read_back.ensures.whole c.args.inst.now plan c.requires.said.scenes c.requires.readable;
    }
