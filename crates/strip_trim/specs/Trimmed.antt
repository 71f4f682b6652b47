-- The lines that a bound of the whole set needs.
use Rattle.std.specs.Prelude.{◌≡◌, ◌↔◌, ℕ, ◌+◌, ◌<◌, true, List, [], ◌∷◌, map, Contains}
use Rattle.std.specs.List.Sorted.{IsStrictlyIncreasing}
use Rattle.strip_mask.specs.Set.{has, without}
use Rattle.strip_film.specs.declared.shared.Line.{Line}
use Rattle.strip_film.specs.Film.{all_scenes}
use Rattle.strip_film.specs.Finish.{rest_after}
use Rattle.strip_film.specs.Rules.{Rules}
use Rattle.strip_film.specs.Shoot.{step_cost}
use Rattle.strip_lines.specs.Lines.{line_at}
use Rattle.strip_trim.specs.Best.{IsBestLine, best_bound}

-- the best line of the set leads on to what remains after the scene: its bound is above the static one, and above
-- the step with the static bound of what then remains; and the scene is one of the firsts
pub record LeadsOn (rules : Rules) (lines : List Line) (set scene : ℕ) : Type 0 where
  pub above : rules.bound set < best_bound lines set
  pub first : has (rules.firsts set) scene ≡ true
  pub short : step_cost rules.film set scene + rules.bound (without set scene) < best_bound lines set

-- each scene of the list is led on to from what remains before it
abbrev pub Leads : Rules → List Line → ℕ → List ℕ → Type 0
Leads rules lines set [] = Unit {0}
Leads rules lines set (scene ∷ scenes) = LeadsOn rules lines set scene × Leads rules lines (without set scene) scenes

-- the set is reached: some list of scenes leads from the whole set to it
abbrev pub Reached : Rules → List Line → ℕ → Type 0
Reached rules lines set =
    (scenes : List ℕ) × Leads rules lines (all_scenes rules.film) scenes
    × (rest_after (all_scenes rules.film) scenes ≡ set)

-- the line at the place is the best one of its set
abbrev pub IsBestAt : List Line → ℕ → Type 0
IsBestAt lines place = IsBestLine lines (record { line = place; set = (line_at lines place).set; bound = (line_at lines place).bound })

-- the line at the place stays: it is the best one of its set, and the set is reached
pub record LineStays (rules : Rules) (lines : List Line) (place : ℕ) : Type 0 where
  pub best : IsBestAt lines place
  pub reached : Reached rules lines (line_at lines place).set

-- the trimmed list: the lines at the places that stay, in the order of the list
pub record AreTrimmed (rules : Rules) (lines trimmed : List Line) : Type 0 where
  pub places : List ℕ
  pub rising : IsStrictlyIncreasing places
  pub exact : (place : ℕ) → Contains places place ↔ LineStays rules lines place
  pub are : trimmed ≡ map (line_at lines) places
