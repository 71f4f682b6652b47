-- The order that a search begins with: at each turn the ready scene whose step is the least.
use Rattle.std.specs.Prelude.{◌≡◌, ℕ, ◌<◌, ◌≤◌, ◌⊎◌, true, List, [], ◌∷◌}
use Rattle.strip_mask.specs.Set.{has, without}
use Rattle.strip_model.specs.Film.{FilmData}
use Rattle.strip_film.specs.Film.{all_scenes}
use Rattle.strip_film.specs.Shoot.{ready, step_cost}

-- the scene is ready, no ready scene of the set has a lesser step, and none with an equal step has a lesser number
pub record IsLeastStep (film : FilmData) (set scene : ℕ) : Type 0 where
  pub is_ready : has (ready film set) scene ≡ true
  pub least : (other : ℕ) → has (ready film set) other ≡ true
      → (step_cost film set scene < step_cost film set other)
      ⊎ ((step_cost film set scene ≡ step_cost film set other) × (scene ≤ other))

-- each scene of the list had the least step when it was shot
abbrev pub HaveLeastSteps : FilmData → ℕ → List ℕ → Type 0
HaveLeastSteps film set [] = Unit {0}
HaveLeastSteps film set (scene ∷ scenes) = IsLeastStep film set scene × HaveLeastSteps film (without set scene) scenes

-- the same from the whole film on
abbrev pub IsGreedy : FilmData → List ℕ → Type 0
IsGreedy film scenes = HaveLeastSteps film (all_scenes film) scenes
