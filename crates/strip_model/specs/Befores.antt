-- What is known of the pairs, and of which scenes lead to which along them.
use Rattle.std.specs.Prelude.{◌≡◌, ◌↔◌, ℕ, ◌/◌, ◌%◌, ◌<◌, Bool, true, List, [], slice_index_or}
use Rattle.strip_mask.specs.Set.{has}
use Rattle.strip_model.specs.declared.befores.Befores.{Befores}
use Rattle.strip_model.specs.declared.scene_set.SceneSet.{SceneSet}
use Rattle.strip_model.specs.declared.pair.Pair.{Pair}
use Rattle.strip_model.specs.Pairs.{Precedes, Leads}

-- whether the set has the scene
unfoldable pub has_scene : SceneSet → ℕ → Bool
has_scene set scene = has (slice_index_or set.masks (scene / 64) (record { 0 = 0 })).0 (scene % 64)

abbrev pub no_scenes : SceneSet
no_scenes = record { masks = [] }

-- whether the one scene is marked as one that a pair puts before the other
unfoldable pub stands_to : Befores → ℕ → ℕ → Bool
stands_to befores from to = has_scene (slice_index_or befores.standing from no_scenes) to

-- whether the one scene is marked as one that leads to the other
unfoldable pub leads_to : Befores → ℕ → ℕ → Bool
leads_to befores from to = has_scene (slice_index_or befores.leading from no_scenes) to

-- of all scenes it is marked which pairs stand in the list, and which scenes lead to which along them
pub record Knows (befores : Befores) (pairs : List Pair) : Type 0 where
  pub stands : (from to : ℕ) → from < 200 → to < 200 → (stands_to befores from to ≡ true) ↔ Precedes pairs from to
  pub leads : (from to : ℕ) → from < 200 → to < 200 → (leads_to befores from to ≡ true) ↔ Leads pairs from to
