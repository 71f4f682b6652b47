-- What a writer has written, a row after the other.
use Rattle.std.proofs.Common.{◌≡◌, ℕ, ◌+◌, ◌<◌, ◌≤◌, List, [], ◌∷◌, ◌++◌, length, get_or, take, map, append_assoc, sym, ap, ◌∙◌, arith}
use Rattle.std.specs.List.{flat_map}
use Rattle.std.proofs.lemmas.Grind.{flat_map-append}
use Rattle.std.proofs.lemmas.List.{flat_map_more, take_all, take_more, length-map, get_or-map}
use Rattle.std.proofs.lemmas.List.Folds.{flat_map-map}
use Rattle.strip_text.specs.Field.{Field}
use Rattle.strip_text.specs.Rows.{csv_row, csv_text, field_of}
use Rattle.std.specs.String.{string_bytes}
use Rattle.strip_model.specs.declared.scene.Scene.{Scene}
use Rattle.strip_model.specs.Data.{InstanceData, SceneData}
use Rattle.strip_model.specs.Instance.{scene_data}
use Rattle.strip_instance.specs.Shown.{names_of as scene_names}
use Rattle.strip_instance.specs.Canonical.{body_rows, canonical_text, head_rows, names_of, pair_fields, scene_fields}

-- one more piece of a text that grows by the elements of a list
pub next_piece : {X : Type 0} (f : X → List ℕ) (front : List ℕ) (xs : List X) (i : ℕ) (d : X) → i < length xs
    → (front ++ flat_map f (take i xs)) ++ f (get_or xs i d) ≡ front ++ flat_map f (take (i + 1) xs)
next_piece f front xs i d within =
    flat_map_more f front (take i xs) (get_or xs i d) ∙ ap (λ list. front ++ flat_map f list) (sym (take_more xs i d within))

-- and where contracts see other elements than the code has
pub piece_next : {X Y : Type 0} (seen_as : X → Y) (f : Y → List ℕ) (front : List ℕ) (xs : List X) (seen : List Y) (i : ℕ) (x : X)
    → map seen_as xs ≡ seen → i < length xs → x ≡ get_or xs i x
    → (front ++ flat_map f (take i seen)) ++ f (seen_as x) ≡ front ++ flat_map f (take (i + 1) seen)
piece_next seen_as f front xs seen i x same lt here =
    let within : i < length seen = omega (arith, length-map xs seen_as, ap length same) in
    let at : get_or seen i (seen_as x) ≡ seen_as x
    = ap (λ list. get_or list i (seen_as x)) (sym same) ∙ get_or-map seen_as xs i x (seen_as x) lt ∙ ap seen_as (sym here) in
    flat_map_more f front (take i seen) (seen_as x)
    ∙ ap (λ list. front ++ flat_map f list) (ap (λ y. take i seen ++ y ∷ []) (sym at) ∙ sym (take_more seen i (seen_as x) within))

-- all pieces
pub pieces : {X : Type 0} (fields : X → List Field) (front : List ℕ) (xs : List X) (i : ℕ) → length xs ≤ i
    → front ++ flat_map (λ x. csv_row (fields x)) (take i xs) ≡ front ++ csv_text (map fields xs)
pieces fields front xs i all =
    ap (λ list. front ++ flat_map (λ x. csv_row (fields x)) list) (take_all i xs all) ∙ ap (λ text. front ++ text) (sym (flat_map-map csv_row fields xs))

-- the name of a scene by its number
pub name-at : (scenes : List Scene) (n : ℕ) (d : Scene) → n < length scenes → field_of (scene_names scenes) n ≡ string_bytes (get_or scenes n d).name
name-at scenes n d within =
    get_or-map (λ (scene : SceneData). scene.name) (map scene_data scenes) n (scene_data d) [] (omega (arith, within, length-map scenes scene_data))
    ∙ ap (λ (scene : SceneData). scene.name) (get_or-map scene_data scenes n d (scene_data d) within)

-- the rows before those of the scenes, these, and those of the pairs are all rows
pub whole : (inst : InstanceData) → (csv_text (head_rows inst.actors) ++ csv_text (map (scene_fields (length inst.actors)) inst.scenes))
    ++ csv_text (map (pair_fields (names_of inst)) inst.pairs) ≡ canonical_text inst
whole inst =
    let scenes = map (scene_fields (length inst.actors)) inst.scenes in
    let pairs = map (pair_fields (names_of inst)) inst.pairs in
    append_assoc (csv_text (head_rows inst.actors)) (csv_text scenes) (csv_text pairs)
    ∙ ap (λ text. csv_text (head_rows inst.actors) ++ text) (sym (flat_map-append csv_row scenes pairs))
    ∙ sym (flat_map-append csv_row (head_rows inst.actors) (body_rows inst))
