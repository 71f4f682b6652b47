use Rattle.std.proofs.Common.{◌≡◌, ◌∷◌, ◌++◌, [], take, map, codes}
use Rattle.std.specs.String.{string_bytes}
use Rattle.strip_reports.proofs.dood.write_header.Given as goal

abbrev pub invariant-loop-number : goal.invariant-loop-number
invariant-loop-number l = map (λ field. field.now) l.fields.items ≡ (codes "actor" ∷ codes "rate" ∷ []) ++ map (λ number. string_bytes number) (take l.number-index l.number-items)
