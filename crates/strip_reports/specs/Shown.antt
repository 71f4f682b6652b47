-- What a reader of a page sees of its text.
use Rattle.std.specs.Prelude.{◌≢◌, ℕ, zero, suc, ◌⊎◌, Bool, true, ◌≡◌, nat_eq, List, [], ◌∷◌, codes, if◌then◌else◌}
use Rattle.std.specs.List.{starts_with}

-- the byte is none of `<`, `>`, `"` and `'`
abbrev pub IsNoMarkup : ℕ → Type 0
IsNoMarkup byte = (byte ≢ 60) × (byte ≢ 62) × (byte ≢ 34) × (byte ≢ 39)

-- the text begins with these bytes
abbrev pub begins : List ℕ → List ℕ → Bool
begins bytes text = starts_with nat_eq text bytes

-- the text begins with an entity of one of the five characters
abbrev pub BeginsEntity : List ℕ → Type 0
BeginsEntity text =
    (begins (codes "&amp;") text ≡ true) ⊎ (begins (codes "&lt;") text ≡ true) ⊎ (begins (codes "&gt;") text ≡ true)
    ⊎ (begins (codes "&quot;") text ≡ true) ⊎ (begins (codes "&#39;") text ≡ true)

-- what is seen of the text behind its first bytes, of which an entity was made
abbrev pub shown_behind : ℕ → List ℕ → List ℕ
shown_behind skipped [] = []
shown_behind (suc skipped) (byte ∷ text) = shown_behind skipped text
shown_behind zero (byte ∷ text) =
    if begins (codes "&amp;") (byte ∷ text) then 38 ∷ shown_behind 4 text
    else if begins (codes "&lt;") (byte ∷ text) then 60 ∷ shown_behind 3 text
    else if begins (codes "&gt;") (byte ∷ text) then 62 ∷ shown_behind 3 text
    else if begins (codes "&quot;") (byte ∷ text) then 34 ∷ shown_behind 5 text
    else if begins (codes "&#39;") (byte ∷ text) then 39 ∷ shown_behind 4 text
    else byte ∷ shown_behind 0 text

-- an entity is seen as its character, and each other byte as itself
abbrev pub shown : List ℕ → List ℕ
shown text = shown_behind 0 text
