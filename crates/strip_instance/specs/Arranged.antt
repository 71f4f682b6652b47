-- An instance with its scenes in another order.
use Rattle.std.specs.Prelude.{ℕ, ◌==◌, List, [], map, slice_index_or}
use Rattle.std.specs.List.{position_or_len}
use Rattle.strip_model.specs.declared.pair.Pair.{Pair}
use Rattle.strip_model.specs.Data.{SceneData, InstanceData}

-- what stands past the last scene
abbrev pub no_scene : SceneData
no_scene = record { name = []; days = 0; cast = 0 }

-- the scene with this number
abbrev pub scene_in : List SceneData → ℕ → SceneData
scene_in scenes scene = slice_index_or scenes scene no_scene

-- the place of the scene in the order, counted from 0
abbrev pub place_in : List ℕ → ℕ → ℕ
place_in order scene = position_or_len (λ other. other == scene) order

-- the pair of the same two scenes, each by its place in the order
abbrev pub pair_in : List ℕ → Pair → Pair
pair_in order pair = record { first = place_in order pair.first; then = place_in order pair.then }

-- the instance whose scenes are numbered by this order; its actors and its pairs of scenes are the same
abbrev pub arranged : InstanceData → List ℕ → InstanceData
arranged inst order = record {
  scenes = map (scene_in inst.scenes) order;
  actors = inst.actors;
  pairs = map (pair_in order) inst.pairs;
}
