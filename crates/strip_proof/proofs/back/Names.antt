-- Names of scenes stand for the scenes.
use Rattle.std.proofs.Common.{◌≡◌, ◌<◌, ℕ, true, List, [], length, get_or, map, All, sym, ◌∙◌, arith, subst}
use Rattle.std.specs.List.{list_all}
use Rattle.std.specs.Str.{bytes_eq}
use Rattle.std.proofs.lemmas.Bool.{false_from_ne_true}
use Rattle.std.proofs.lemmas.List.{get_or-map}
use Rattle.std.proofs.lemmas.List.Elements.{All-map, All-weaker}
use Rattle.std.proofs.lemmas.List.Sums.{list_all-from_AllPass}
use Rattle.std.proofs.lemmas.Simd.{map-map}
use Rattle.std.proofs.lemmas.Slice.Eq.{bytes_eq-Decides}
use Rattle.std.proofs.lemmas.List.Folds.{map_fixed}
use Rattle.strip_model.specs.Data.{InstanceData, SceneData, scene_name}
use Rattle.strip_text.specs.Field.{Field, trimmed}
use Rattle.strip_proof.specs.Field.{is_scene, scene_of}
use Rattle.strip_proof.specs.Text.{HasReadableScenes}
use Rattle.strip_proof.proofs.read.Scenes.{AreOthers, first_scene, there_is}

abbrev no_scene : SceneData
no_scene = record { name = []; days = 0; cast = 0 }

-- the name of a scene, as its record has it
name-at : (inst : InstanceData) (scene : ℕ) → scene < length inst.scenes → scene_name inst scene ≡ (get_or inst.scenes scene no_scene).name
name-at inst scene within = get_or-map (λ (s : SceneData). s.name) inst.scenes scene no_scene [] within

-- no scene before it has the name
others-before : (inst : InstanceData) (scene : ℕ) → HasReadableScenes inst → scene < length inst.scenes → AreOthers inst (scene_name inst scene) scene
others-before inst scene names within k before =
    let earlier : k < length inst.scenes = omega arith in
    false_from_ne_true (bytes_eq (scene_name inst scene) (scene_name inst k)) (λ same.
    names.apart k scene no_scene before within
    (sym (name-at inst k earlier) ∙ sym ((bytes_eq-Decides (scene_name inst scene) (scene_name inst k)).0 same) ∙ name-at inst scene within))

same_bytes : (field : Field) → bytes_eq field field ≡ true
same_bytes field = (bytes_eq-Decides field field).1 (λ i. field)

pub scene_of-name : (inst : InstanceData) (scene : ℕ) → HasReadableScenes inst → scene < length inst.scenes → scene_of inst (scene_name inst scene) ≡ scene
scene_of-name inst scene names within =
    first_scene inst (scene_name inst scene) scene within (others-before inst scene names within) (same_bytes (scene_name inst scene))

-- the names of an order say it
pub scenes_of-names : (inst : InstanceData) (order : List ℕ) → HasReadableScenes inst → All (λ scene. scene < length inst.scenes) order
    → map (scene_of inst) (map (scene_name inst) order) ≡ order
scenes_of-names inst order names within =
    map-map (scene_of inst) (scene_name inst) order
    ∙ map_fixed (λ scene. scene_of inst (scene_name inst scene)) order
    (All-weaker (λ scene. scene < length inst.scenes) (λ scene. scene_of inst (scene_name inst scene) ≡ scene) (λ scene lt. scene_of-name inst scene names lt) order within)

pub are_scenes : (inst : InstanceData) (order : List ℕ) → HasReadableScenes inst → All (λ scene. scene < length inst.scenes) order
    → list_all (is_scene inst) (map (scene_name inst) order) ≡ true
are_scenes inst order names within =
    list_all-from_AllPass (is_scene inst) (map (scene_name inst) order)
    (All-map (λ name. is_scene inst name ≡ true) (scene_name inst) order
    (All-weaker (λ scene. scene < length inst.scenes) (λ scene. is_scene inst (scene_name inst scene) ≡ true)
    (λ scene lt. there_is inst (scene_name inst scene) scene lt (scene_of-name inst scene names lt)) order within))

-- and trimming changes none of them
pub trimmed-names : (inst : InstanceData) (order : List ℕ) → HasReadableScenes inst → All (λ scene. scene < length inst.scenes) order
    → map trimmed (map (scene_name inst) order) ≡ map (scene_name inst) order
trimmed-names inst order names within =
    map_fixed trimmed (map (scene_name inst) order)
    (All-map (λ name. trimmed name ≡ name) (scene_name inst) order
    (All-weaker (λ scene. scene < length inst.scenes) (λ scene. trimmed (scene_name inst scene) ≡ scene_name inst scene)
    (λ scene lt. subst (λ (name : Field). trimmed name ≡ name) (sym (name-at inst scene lt)) (names.bare scene no_scene lt)) order within))
