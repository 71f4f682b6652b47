use Rattle.std.proofs.Common.{◌≡◌, ◌∙◌}
use Rattle.std.proofs.lemmas.Result.{IfOk-weaker}
use Rattle.strip_text.specs.Rows.{csv_text}
use Rattle.strip_proof.specs.Plan.{plan_data}
use Rattle.strip_proof.specs.Rows.{head_rows}
use Rattle.strip_proof.proofs.head.head_text.Goals as goal

pub returns : goal.returns
returns c =
    IfOk-weaker c.into_bytes.result (λ text. text.items ≡ c.push_head.new.text)
    (λ text. text.items ≡ csv_text (head_rows c.args.inst.now (plan_data c.args.plan.now) c.args.printed))
    (λ text same. same ∙ c.in_ok-push_head.ensures)
    c.into_bytes.ensures
