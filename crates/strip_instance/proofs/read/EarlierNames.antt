-- Names that were read before.
use Rattle.std.proofs.Common.{◌≡◌, ◌<◌, ◌≤◌, ◌+◌, ◌||◌, ℕ, true, false, List, [], ◌∷◌, ◌++◌, length, get_or, map, take, sym, ap, ◌∙◌, Bor, zero, suc, arith}
use Rattle.std.specs.Str.{bytes_eq}
use Rattle.std.proofs.lemmas.Bool.{or_from, or_left, or_right}
use Rattle.std.proofs.lemmas.List.{get_or-take, length-take-le, map-append, take_more}
use Rattle.std.proofs.lemmas.Simd.{map-map}
use Rattle.std.proofs.Math.Bool.{or_assoc, or-false}
use Rattle.strip_text.specs.Field.{Field}
use Rattle.strip_text.specs.Rows.{Row, field_of}
use Rattle.strip_model.specs.Data.{SceneData}
use Rattle.strip_instance.specs.Faults.{contains}
use Rattle.strip_instance.specs.Shown.{strs}
use Rattle.strip_instance.specs.Text.{scene_of}

-- one more name, as it is borrowed
pub names-pushed : (fields : List Field) (k : ℕ) (so_far pushed : List (Bor (List ℕ))) (name : Bor (List ℕ)) → k < length fields
    → pushed ≡ so_far ++ name ∷ [] → strs so_far ≡ take k fields → name.now ≡ field_of fields k → strs pushed ≡ take (k + 1) fields
names-pushed fields k so_far pushed name within is before its =
    ap strs is ∙ map-append (λ text. text.now) so_far (name ∷ []) ∙ ap (λ (names : List Field). names ++ name.now ∷ []) before
    ∙ ap (λ (field : Field). take k fields ++ field ∷ []) its ∙ sym (take_more fields k [] within)

-- a name behind others is the one, or it is among them
contains-push : (names : List Field) (name other : Field) → contains (names ++ other ∷ []) name ≡ (contains names name || bytes_eq name other)
contains-push [] name other = or-false (bytes_eq name other)
contains-push (first ∷ names) name other =
    ap (λ b. bytes_eq name first || b) (contains-push names name other) ∙ sym (or_assoc (bytes_eq name first) (contains names name) (bytes_eq name other))

-- neither among the first names nor the next one
pub not_in-more : (names : List Field) (k : ℕ) (name : Field) → k < length names → contains (take k names) name ≡ false
    → bytes_eq name (get_or names k []) ≡ false → contains (take (k + 1) names) name ≡ false
not_in-more names k name within none other =
    ap (λ (list : List Field). contains list name) (take_more names k [] within) ∙ contains-push (take k names) name (get_or names k [])
    ∙ or_from _ _ none other

-- one that is the name at a place
pub is_in : (names : List Field) (place : ℕ) (name : Field) → place < length names → bytes_eq name (get_or names place []) ≡ true → contains names name ≡ true
is_in [] place name within same = absurd (omega arith)
is_in (first ∷ names) zero name within same = or_left _ _ same
is_in (first ∷ names) (suc place) name within same = or_right _ _ (is_in names place name (omega arith) same)

-- one of the first names
pub is_in-first : (names : List Field) (k place : ℕ) (name : Field) → place < k → k ≤ length names
    → bytes_eq name (get_or names place []) ≡ true → contains (take k names) name ≡ true
is_in-first names k place name before within same =
    is_in (take k names) place name (omega (arith, length-take-le k names within))
    (ap (bytes_eq name) (get_or-take k names place [] before) ∙ same)

-- the names of scenes that were made of rows
pub scene_names : (scenes : List SceneData) (earlier : List Row) → scenes ≡ map scene_of earlier
    → map (λ (scene : SceneData). scene.name) scenes ≡ map (λ (row : Row). field_of row 0) earlier
scene_names scenes earlier same =
    ap (map (λ (scene : SceneData). scene.name)) same ∙ map-map (λ (scene : SceneData). scene.name) scene_of earlier
