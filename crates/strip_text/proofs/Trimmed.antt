-- Rows of a text are trimmed: trimming their fields again changes nothing.
use Rattle.std.proofs.Common.{◌≡◌, ℕ, false, List, [], ◌∷◌, ◌++◌, length, get_or, map, reverse, All, refl, sym, ap, ◌∙◌, subst, inl, inr}
use Rattle.std.proofs.lemmas.Bool.{cases_Bool, cases_lt, cond-true, cond-false}
use Rattle.std.proofs.lemmas.Grind.{reverse_onto}
use Rattle.std.proofs.lemmas.List.{get_or_past, reverse-append, reverse-reverse}
use Rattle.std.proofs.lemmas.List.Elements.{All-map}
use Rattle.csv.specs.Reading.{default_config, records, strip_bom}
use Rattle.strip_text.specs.Field.{Field, is_blank, without_front_blanks, trimmed}
use Rattle.strip_text.specs.Rows.{Row, field_of, rows_of}

-- the field is empty, or its first byte is no blank
abbrev pub StartsBare : Field → Type 0
StartsBare [] = Unit {0}
StartsBare (byte ∷ bytes) = is_blank byte ≡ false

-- nothing is taken off in front of such a field
starts_bare-same : (field : Field) → StartsBare field → without_front_blanks field ≡ field
starts_bare-same [] bare = refl
starts_bare-same (byte ∷ bytes) bare = cond-false (is_blank byte) (without_front_blanks bytes) (byte ∷ bytes) bare

-- what is left when the blanks in front are taken off is such a field
without-starts_bare : (field : Field) → StartsBare (without_front_blanks field)
without-starts_bare [] = tt
without-starts_bare (byte ∷ bytes) = elim (cases_Bool (is_blank byte)) [
  | inl blank ↦ subst StartsBare (sym (cond-true (is_blank byte) (without_front_blanks bytes) (byte ∷ bytes) blank)) (without-starts_bare bytes)
  | inr other ↦ subst StartsBare (sym (cond-false (is_blank byte) (without_front_blanks bytes) (byte ∷ bytes) other)) other
]

-- a last byte that is no blank stays when the blanks in front are taken off
without-push : (bytes : Field) (last : ℕ) → is_blank last ≡ false → without_front_blanks (bytes ++ last ∷ []) ≡ without_front_blanks bytes ++ last ∷ []
without-push [] last bare = cond-false (is_blank last) [] (last ∷ []) bare
without-push (byte ∷ bytes) last bare =
    let Ends : Field → Field = λ field. field ++ last ∷ [] in
    elim (cases_Bool (is_blank byte)) [
      | inl blank ↦ cond-true (is_blank byte) (without_front_blanks (bytes ++ last ∷ [])) (byte ∷ (bytes ++ last ∷ [])) blank ∙ without-push bytes last bare
          ∙ ap Ends (sym (cond-true (is_blank byte) (without_front_blanks bytes) (byte ∷ bytes) blank))
      | inr other ↦ cond-false (is_blank byte) (without_front_blanks (bytes ++ last ∷ [])) (byte ∷ (bytes ++ last ∷ [])) other
          ∙ ap Ends (sym (cond-false (is_blank byte) (without_front_blanks bytes) (byte ∷ bytes) other))
    ]

-- a field whose first byte is no blank keeps it when the blanks behind are taken off
behind-starts_bare : (field : Field) → StartsBare field → StartsBare (reverse (without_front_blanks (reverse field)))
behind-starts_bare [] bare = tt
behind-starts_bare (byte ∷ bytes) bare =
    let same : reverse (without_front_blanks (reverse (byte ∷ bytes))) ≡ byte ∷ reverse (without_front_blanks (reverse bytes))
    = ap (λ f. reverse (without_front_blanks f)) (reverse_onto bytes byte []) ∙ ap reverse (without-push (reverse bytes) byte bare)
    ∙ reverse-append (without_front_blanks (reverse bytes)) (byte ∷ []) in
    subst StartsBare (sym same) bare

-- trimming again changes nothing
pub trimmed-again : (field : Field) → trimmed (trimmed field) ≡ trimmed field
trimmed-again field =
    let behind = reverse (without_front_blanks field) in
    ap (λ f. reverse (without_front_blanks (reverse f))) (starts_bare-same (trimmed field) (behind-starts_bare (without_front_blanks field) (without-starts_bare field)))
    ∙ ap (λ f. reverse (without_front_blanks f)) (reverse-reverse (without_front_blanks behind))
    ∙ ap reverse (starts_bare-same (without_front_blanks behind) (without-starts_bare behind))

-- each field of the row is trimmed
abbrev pub IsTrimmedRow : Row → Type 0
IsTrimmedRow row = All (λ field. trimmed field ≡ field) row

-- a field that is read from such a row is trimmed, also one past the end
pub trimmed-field_of : (row : Row) (place : ℕ) → IsTrimmedRow row → trimmed (field_of row place) ≡ field_of row place
trimmed-field_of row place trim = elim (cases_lt place (length row)) [
  | inl within ↦ trim place [] within
  | inr past ↦ subst (λ (field : Field). trimmed field ≡ field) (sym (get_or_past row place [] past)) refl
]

-- the rows of a text are such rows
pub trimmed-rows_of : (text : List ℕ) → All IsTrimmedRow (rows_of text)
trimmed-rows_of text =
    let read = records default_config (strip_bom text) in
    All-map IsTrimmedRow (map trimmed) read (λ k d within.
    All-map (λ field. trimmed field ≡ field) trimmed (get_or read k d) (λ i e _. trimmed-again (get_or (get_or read k d) i e)))
