use Rattle.std.proofs.Common.{◌≡◌, ap, ◌∙◌}
use Rattle.std.proofs.lemmas.Result.{IfOk-weaker}
use Rattle.strip_text.specs.Rows.{csv_text}
use Rattle.strip_reports.specs.Text.{dood_text, rows_by_crews}
use Rattle.strip_reports.proofs.dood.dood.Goals as goal

pub returns : goal.returns
returns c =
    let inst = c.args.inst.now in
    let written = c.in_ok-write_rows.ensures ∙ ap (λ crews. csv_text (rows_by_crews inst crews)) (c.deref.ensures.value ∙ c.in_ok-crews.ensures.crews) in
    record {
      text = IfOk-weaker c.into_bytes.result (λ text. text.items ≡ c.write_rows.new.text) (λ text. text.items ≡ dood_text inst c.args.order.now)
          (λ text same. same ∙ written) c.into_bytes.ensures;
    }
