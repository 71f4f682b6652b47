use Rattle.std.proofs.Common.{◌≡◌, ◌∷◌, ◌++◌, [], take, map, arith, ap, ◌∙◌}
use Rattle.std.specs.String.{string_bytes}
use Rattle.std.proofs.lemmas.List.{take_all}
use Rattle.std.proofs.lemmas.Result.{on_ok_weaker}
use Rattle.strip_text.specs.Rows.{csv_row}
use Rattle.strip_model.specs.Instance.{actor_data}
use Rattle.strip_instance.specs.Shown.{rate_of, rate_word}
use Rattle.strip_instance.specs.Canonical.{pay_fields}
use Rattle.strip_instance.proofs.writing.write_rates.Goals as goal

pub returns : goal.returns
returns c =
    let numbers = c.deref-number-items.result.now in
    let word = rate_word c.args.kind in
    let all : take c.loop-number.number-index numbers ≡ numbers = take_all c.loop-number.number-index numbers (omega arith) in
    let fields : map (λ field. field.now) c.deref.result.now ≡ pay_fields word (rate_of c.args.kind) (map actor_data c.args.actors.now)
    = ap (map (λ field. field.now)) c.deref.ensures.value ∙ c.loop-number.invariant
    ∙ ap (λ list. word ∷ [] ∷ map (λ number. string_bytes number) list) (all ∙ c.deref-number-items.ensures.value)
    ∙ ap (λ rates. word ∷ [] ∷ rates) c.in_ok-numbers.ensures in
    on_ok_weaker c.push-3.result (λ is. is ∙ ap (λ row. c.args.text.now ++ csv_row row) fields) c.push-3.ensures
