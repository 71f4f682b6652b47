-- An instance as plain data: names as their bytes, casts as sets of actor numbers.
use Rattle.std.specs.Prelude.{◌≢◌, ℕ, ◌≤◌, ◌<◌, List, [], length, map, All, slice_index_or}
use Rattle.std.specs.List.{AllPairs}
use Rattle.strip_mask.specs.Set.{LiesBelow}
use Rattle.strip_model.specs.declared.pair.Pair.{Pair}
use Rattle.strip_model.specs.Pairs.{FitPairs}

-- a scene: its name, how many days it is shot, and who works in it
pub record SceneData : Type 0 where
  pub name : List ℕ
  pub days : ℕ
  pub cast : ℕ

-- an actor: the name, the rate for a day of work, and that for a day of waiting
pub record ActorData : Type 0 where
  pub name : List ℕ
  pub rate : ℕ
  pub hold : ℕ

-- the scenes and the actors, each numbered by its place, and which scenes come before which
pub record InstanceData : Type 0 where
  pub scenes : List SceneData
  pub actors : List ActorData
  pub pairs : List Pair

-- the name of the scene with this number
abbrev pub scene_name : InstanceData → ℕ → List ℕ
scene_name inst scene = slice_index_or (map (λ s. s.name) inst.scenes) scene []

-- a name within the limits
abbrev pub IsName : List ℕ → Type 0
IsName name = (0 < length name) × (length name ≤ 64)

-- a scene within the limits, where there are this many actors
pub record IsScene (actors : ℕ) (scene : SceneData) : Type 0 where
  pub name : IsName scene.name
  pub days : (0 < scene.days) × (scene.days ≤ 99)
  pub cast : LiesBelow actors scene.cast

-- an actor within the limits
pub record IsActor (actor : ActorData) : Type 0 where
  pub name : IsName actor.name
  pub rate : actor.rate ≤ 1_000_000_000
  pub hold : actor.hold ≤ 1_000_000_000

-- an instance within the limits
pub record IsInstance (inst : InstanceData) : Type 0 where
  pub scene_count : (0 < length inst.scenes) × (length inst.scenes ≤ 200)
  pub actor_count : length inst.actors ≤ 64
  pub scenes : All (IsScene (length inst.actors)) inst.scenes
  pub actors : All IsActor inst.actors
  pub scene_names : AllPairs (λ a b. a.name ≢ b.name) inst.scenes
  pub actor_names : AllPairs (λ a b. a.name ≢ b.name) inst.actors
  pub pairs : FitPairs (length inst.scenes) inst.pairs
