use Rattle.std.proofs.Common.{◌∷◌, ◌++◌, [], map, arith, sym, ap, ◌∙◌}
use Rattle.std.specs.List.{range_with_len}
use Rattle.std.specs.String.{string_bytes}
use Rattle.std.proofs.lemmas.List.{map-append}
use Rattle.std.proofs.lemmas.List.FromFn.{map-range_with_len_more}
use Rattle.strip_reports.specs.Text.{day_number}
use Rattle.strip_reports.proofs.dood.day_numbers.Goals as goal

pub loop-day-preserved : goal.loop-day-preserved
loop-day-preserved c =
    let k = c.loop-day.day in
    let number = c.in_ok-to_string.field-0 in
    ap (map (λ number. string_bytes number)) c.in_ok-push.ensures.items ∙ map-append (λ number. string_bytes number) c.loop-day.numbers.items (number ∷ [])
    ∙ ap (λ list. list ++ string_bytes number ∷ []) c.loop-day.invariant
    ∙ ap (λ last. map day_number (range_with_len 0 k) ++ last ∷ []) c.in_ok-to_string.ensures.ok
    ∙ sym (map-range_with_len_more day_number 0 k k (omega arith))
