-- The scene that a name stands for.
use Rattle.std.proofs.Common.{◌≡◌, ◌<◌, ℕ, true, false, [], length, get_or, map, arith}
use Rattle.std.specs.Str.{bytes_eq}
use Rattle.std.proofs.lemmas.Bool.{lt-ltb, le-ltb}
use Rattle.std.proofs.lemmas.List.{length-map}
use Rattle.std.proofs.lemmas.List.Sums.{position_or_len_is}
use Rattle.strip_model.specs.Data.{InstanceData, SceneData}
use Rattle.strip_text.specs.Field.{Field}
use Rattle.strip_proof.specs.Field.{is_scene, scene_of}

-- the names of the scenes before this one are others
abbrev pub AreOthers : InstanceData → Field → ℕ → Type 0
AreOthers inst name i = (k : ℕ) → k < i → bytes_eq name (get_or (map (λ scene. scene.name) inst.scenes) k []) ≡ false

count : (inst : InstanceData) → length (map (λ (scene : SceneData). scene.name) inst.scenes) ≡ length inst.scenes
count inst = length-map inst.scenes (λ (scene : SceneData). scene.name)

-- the first scene with the name
pub first_scene : (inst : InstanceData) (name : Field) (i : ℕ) → i < length inst.scenes → AreOthers inst name i
    → bytes_eq name (get_or (map (λ scene. scene.name) inst.scenes) i []) ≡ true → scene_of inst name ≡ i
first_scene inst name i within others same =
    position_or_len_is (bytes_eq name) (map (λ scene. scene.name) inst.scenes) i [] (omega (arith, count inst)) others (λ _. same)

pub there_is : (inst : InstanceData) (name : Field) (i : ℕ) → i < length inst.scenes → scene_of inst name ≡ i → is_scene inst name ≡ true
there_is inst name i within is = lt-ltb (scene_of inst name) (length inst.scenes) (omega (arith, is))

-- no scene has the name
pub there_is_none : (inst : InstanceData) (name : Field) (i : ℕ) → i ≡ length inst.scenes → AreOthers inst name i → is_scene inst name ≡ false
there_is_none inst name i all others =
    let last : scene_of inst name ≡ i
    = position_or_len_is (bytes_eq name) (map (λ scene. scene.name) inst.scenes) i [] (omega (arith, count inst, all)) others
    (λ within. absurd (omega (arith, count inst, all, within))) in
    le-ltb (scene_of inst name) (length inst.scenes) (omega (arith, last, all))
