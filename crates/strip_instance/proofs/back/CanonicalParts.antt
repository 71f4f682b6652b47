-- The parts of a canonical text are those that were written.
use Rattle.std.proofs.Common.{◌≡◌, ℕ, Bool, true, false, not, ◌||◌, List, [], ◌∷◌, ◌++◌, length, map, drop, All, Some, None, refl, ap, ◌∙◌, codes, if◌then◌else◌}
use Rattle.std.proofs.lemmas.List.Elements.{All-head, All-tail}
use Rattle.std.proofs.Math.Seq.{drop-append_seam}
use Rattle.strip_model.specs.declared.pair.Pair.{Pair}
use Rattle.strip_model.specs.Data.{SceneData, ActorData, InstanceData}
use Rattle.strip_text.specs.Field.{Field}
use Rattle.strip_text.specs.Rows.{Row, field_of, row_of}
use Rattle.strip_instance.specs.Field.{is_word, is_scene_name}
use Rattle.strip_instance.specs.Parts.{befores_part, parts_of, scenes_part}
use Rattle.strip_instance.specs.Canonical.{header_fields, rate_fields, hold_fields, scene_fields, has_own_holds, body_rows, canonical_rows, names_of, pair_fields}
use Rattle.strip_instance.proofs.read.SceneRows.{scenes_part-end, scenes_part-next}
use Rattle.strip_instance.proofs.back.TextNames.{IsTextName}
use Rattle.strip_text.proofs.Digits.{and-right}
use Rattle.strip_instance.proofs.back.Spelled.{written_parts}

-- the name of a scene isn't the word
not_hold : (name : Field) → is_scene_name name ≡ true → is_word (codes "hold") name ≡ false
not_hold name is = middle (is_word (codes "rate") name) (is_word (codes "hold") name) (is_word (codes "before") name) (and-right _ _ is)
  where
    middle : (a b c : Bool) → not (a || b || c) ≡ true → b ≡ false
    middle true true c kept = cc kept
    middle false true c kept = cc kept
    middle a false c kept = refl

-- nor the other
not_before : (name : Field) → is_scene_name name ≡ true → is_word (codes "before") name ≡ false
not_before name is = last (is_word (codes "rate") name) (is_word (codes "hold") name) (is_word (codes "before") name) (and-right _ _ is)
  where
    last : (a b c : Bool) → not (a || b || c) ≡ true → c ≡ false
    last true b c kept = cc kept
    last false true c kept = cc kept
    last false false true kept = cc kept
    last a b false kept = refl

-- so the first row behind the rates is no hold row
no_hold_row : (actors : ℕ) (scenes : List SceneData) (names : List Field) (pairs : List Pair) → All (λ scene. IsTextName is_scene_name scene.name) scenes
    → is_word (codes "hold") (field_of (row_of (map (scene_fields actors) scenes ++ map (pair_fields names) pairs) 0) 0) ≡ false
no_hold_row actors [] names [] texts = refl
no_hold_row actors [] names (pair ∷ pairs) texts = refl
no_hold_row actors (scene ∷ scenes) names pairs texts =
    not_hold scene.name (All-head (λ (other : SceneData). IsTextName is_scene_name other.name) scene scenes texts).readable.passes

-- and the rows of the scenes end where those of the pairs begin
scenes_part-written : (actors : ℕ) (scenes : List SceneData) (names : List Field) (pairs : List Pair) → All (λ scene. IsTextName is_scene_name scene.name) scenes
    → scenes_part (map (scene_fields actors) scenes ++ map (pair_fields names) pairs) ≡ map (scene_fields actors) scenes
scenes_part-written actors [] names [] texts = refl
scenes_part-written actors [] names (pair ∷ pairs) texts = scenes_part-end (pair_fields names pair) (map (pair_fields names) pairs) refl
scenes_part-written actors (scene ∷ scenes) names pairs texts =
    scenes_part-next (scene_fields actors scene) (map (scene_fields actors) scenes ++ map (pair_fields names) pairs)
    (not_before scene.name (All-head (λ (other : SceneData). IsTextName is_scene_name other.name) scene scenes texts).readable.passes)
    ∙ ap (λ (rows : List Row). scene_fields actors scene ∷ rows)
    (scenes_part-written actors scenes names pairs (All-tail (λ (other : SceneData). IsTextName is_scene_name other.name) scene scenes texts))

befores_part-written : (actors : ℕ) (scenes : List SceneData) (names : List Field) (pairs : List Pair) → All (λ scene. IsTextName is_scene_name scene.name) scenes
    → befores_part (map (scene_fields actors) scenes ++ map (pair_fields names) pairs) ≡ map (pair_fields names) pairs
befores_part-written actors scenes names pairs texts =
    ap (λ (part : List Row). drop (length part) (map (scene_fields actors) scenes ++ map (pair_fields names) pairs)) (scenes_part-written actors scenes names pairs texts)
    ∙ drop-append_seam (map (scene_fields actors) scenes) (map (pair_fields names) pairs)

-- the hold row is found where it was written
parts_by : (own : Bool) (actors : List ActorData) (body : List Row) → is_word (codes "hold") (field_of (row_of body 0) 0) ≡ false
    → parts_of ((header_fields actors ∷ rate_fields actors ∷ (if own then hold_fields actors ∷ [] else [])) ++ body) ≡ record {
      header = header_fields actors;
      rates = rate_fields actors;
      hold = if own then Some (hold_fields actors) else None;
      scenes = scenes_part body;
      befores = befores_part body;
      first = if own then 4 else 3;
    }
parts_by true actors body no_row = refl
parts_by false actors body no_row = rw no_row refl

pub parts_of-canonical : (inst : InstanceData) → All (λ scene. IsTextName is_scene_name scene.name) inst.scenes
    → parts_of (canonical_rows inst) ≡ written_parts inst
parts_of-canonical inst texts =
    let n = length inst.actors in
    let own = has_own_holds inst.actors in
    let scenes = scenes_part-written n inst.scenes (names_of inst) inst.pairs texts in
    let befores = befores_part-written n inst.scenes (names_of inst) inst.pairs texts in
    parts_by own inst.actors (body_rows inst) (no_hold_row n inst.scenes (names_of inst) inst.pairs texts)
    ∙ (λ i. record {
      header = header_fields inst.actors;
      rates = rate_fields inst.actors;
      hold = if own then Some (hold_fields inst.actors) else None;
      scenes = scenes i;
      befores = befores i;
      first = if own then 4 else 3;
    })
