-- The paths of a layer that go on from a path.
use Rattle.std.specs.Prelude.{◌≡◌, ◌↔◌, ℕ, true, List, Contains}
use Rattle.std.specs.List.{AllPairs}
use Rattle.strip_mask.specs.Set.{has}
use Rattle.strip_film.specs.Film.{all_scenes}
use Rattle.strip_film.specs.Path.{PathData, extended}
use Rattle.strip_film.specs.Ranks.{IsEarlier}
use Rattle.strip_film.specs.Rules.{Rules}

-- the path is one of the layer, and goes on from the shorter one with a first of what remains
pub record GoesOn (rules : Rules) (layer : List PathData) (shorter path : PathData) : Type 0 where
  pub among : Contains layer path
  pub by_first : (scene : ℕ) × (has (rules.firsts shorter.rest) scene ≡ true)
      × (path ≡ extended rules.film shorter scene)

-- all that go on from it, an earlier one before a later one
pub record AreOnward (rules : Rules) (layer : List PathData) (shorter : PathData) (paths : List PathData) : Type 0 where
  pub same : (path : PathData) → Contains paths path ↔ GoesOn rules layer shorter path
  pub rise : AllPairs (λ a b. IsEarlier rules (all_scenes rules.film) a.scenes b.scenes) paths
