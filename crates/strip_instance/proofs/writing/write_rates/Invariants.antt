use Rattle.std.proofs.Common.{◌≡◌, ◌∷◌, ◌++◌, [], take, map}
use Rattle.std.specs.String.{string_bytes}
use Rattle.strip_instance.specs.Shown.{rate_word}
use Rattle.strip_instance.proofs.writing.write_rates.Given as goal

abbrev pub invariant-loop-number : goal.invariant-loop-number
invariant-loop-number l = map (λ field. field.now) l.fields.items ≡ (rate_word l.fn.kind ∷ [] ∷ []) ++ map (λ number. string_bytes number) (take l.number-index l.number-items)
