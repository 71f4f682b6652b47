-- Names that differ pairwise.
use Rattle.std.proofs.Common.{◌≡◌, ◌≢◌, ℕ, ◌<◌, false, List, [], ◌∷◌, length, get_or, map, take, All, refl, sym, ◌∙◌, arith}
use Rattle.std.specs.List.{AllPairs}
use Rattle.std.specs.Str.{bytes_eq}
use Rattle.std.proofs.lemmas.Bool.{false_from_ne_true, or_from}
use Rattle.std.proofs.lemmas.List.{get_or-map, get_or-take, length-map, length-take-le}
use Rattle.std.proofs.lemmas.List.Elements.{All-head, All-tail, All-from_get_or}
use Rattle.std.proofs.lemmas.Slice.Eq.{bytes_eq-Decides}
use Rattle.strip_text.specs.Field.{Field}
use Rattle.strip_instance.specs.Faults.{contains}

-- things whose names differ have names that differ
pub pairs-map : {X : Type 0} (name : X → Field) (xs : List X) → AllPairs (λ a b. name a ≢ name b) xs → AllPairs (λ a b. a ≢ b) (map name xs)
pairs-map name [] differ i j d lt within = absurd (omega arith)
pairs-map name (x ∷ xs) differ i j d lt within =
    let second : j < length (x ∷ xs) = omega (arith, length-map (x ∷ xs) name) in
    let first : i < length (x ∷ xs) = omega arith in
    λ same. differ i j x lt second (sym (get_or-map name (x ∷ xs) i x d first) ∙ same ∙ get_or-map name (x ∷ xs) j x d second)

-- bytes that differ aren't found equal
pub bytes_differ : (a b : Field) → a ≢ b → bytes_eq a b ≡ false
bytes_differ a b differ = false_from_ne_true (bytes_eq a b) (λ same. differ ((bytes_eq-Decides a b).0 same))

-- a name that differs from each of some names isn't one of them
not_contained : (names : List Field) (name : Field) → All (λ other. other ≢ name) names → contains names name ≡ false
not_contained [] name differ = refl
not_contained (other ∷ names) name differ =
    or_from _ _ (bytes_differ name other (λ same. All-head (λ o. o ≢ name) other names differ (sym same)))
    (not_contained names name (All-tail (λ o. o ≢ name) other names differ))

-- of names that differ pairwise none stands before itself
pub not_contained-before : (names : List Field) (place : ℕ) → AllPairs (λ a b. a ≢ b) names → place < length names
    → contains (take place names) (get_or names place []) ≡ false
not_contained-before names place differ within =
    not_contained (take place names) (get_or names place [])
    (All-from_get_or (λ other. other ≢ get_or names place []) (take place names) [] (λ i lt.
    let before : i < place = omega (arith, length-take-le place names (omega arith)) in
    λ same. differ i place [] before within (sym (get_or-take place names i [] before) ∙ same)))
