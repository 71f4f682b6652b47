-- Rows and their actors' fields.
use Rattle.std.proofs.Common.{◌≡◌, ◌<◌, ◌+◌, ℕ, List, [], ◌∷◌, ◌++◌, get_or, length, map, take, ap, sym, ◌∙◌, arith}
use Rattle.std.proofs.lemmas.List.{get_or-drop, map-append, take_more}
use Rattle.strip_text.specs.Field.{Field}
use Rattle.strip_text.specs.Number.{number_of}
use Rattle.strip_text.specs.Rows.{Row, field_of}
use Rattle.strip_instance.specs.Parts.{actor_fields}

-- an actor's field by its place in the row
pub actor_field : (row : Row) (actor : ℕ) → field_of row (actor + 2) ≡ field_of (actor_fields row) actor
actor_field row actor = sym (get_or-drop 2 row actor [] ∙ ap (λ i. get_or row i []) (omega arith))

-- one more rate
rates-more : (fields : List Field) (k : ℕ) → k < length fields
    → map number_of (take (k + 1) fields) ≡ map number_of (take k fields) ++ number_of (field_of fields k) ∷ []
rates-more fields k within = ap (map number_of) (take_more fields k [] within) ∙ map-append number_of (take k fields) (get_or fields k [] ∷ [])

pub rates-pushed : (fields : List Field) (k : ℕ) (so_far pushed : List ℕ) (rate : ℕ) → k < length fields
    → pushed ≡ so_far ++ rate ∷ [] → so_far ≡ map number_of (take k fields) → rate ≡ number_of (field_of fields k)
    → pushed ≡ map number_of (take (k + 1) fields)
rates-pushed fields k so_far pushed rate within is before its =
    is ∙ ap (λ list. list ++ rate ∷ []) before ∙ ap (λ n. map number_of (take k fields) ++ n ∷ []) its ∙ sym (rates-more fields k within)
