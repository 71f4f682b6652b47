use Rattle.std.proofs.Common.{◌≡◌, ◌∷◌, ◌++◌, [], take, map}
use Rattle.std.specs.String.{string_bytes}
use Rattle.strip_answer.specs.Rows.{number_field}
use Rattle.strip_answer.proofs.answer.told_row.Given as goal

-- the fields so far
abbrev pub invariant-loop-name : goal.invariant-loop-name
invariant-loop-name l =
    map (λ field. field.now) l.fields.items
    ≡ (l.word ∷ l.told.name.now ∷ number_field l.told.first ∷ number_field l.told.second ∷ []) ++ map string_bytes (take l.name-index l.told.names.now)
