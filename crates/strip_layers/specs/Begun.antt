-- How a search by layers begins.
use Rattle.std.specs.Prelude.{◌≡◌, ℕ, ◌+◌, ◌≤◌, max, true, false}
use Rattle.strip_mask.specs.Set.{has, without}
use Rattle.strip_film.specs.Film.{all_scenes}
use Rattle.strip_film.specs.Path.{PathData}
use Rattle.strip_film.specs.Rules.{Rules}
use Rattle.strip_film.specs.Shoot.{step_cost}
use Rattle.strip_lines.specs.Lines.{ahead}
use Rattle.strip_layers.specs.Search.{IsSearch, SearchData}

-- a number that is at most each step from all scenes with the static bound of the rest, and with the static bound of all
-- scenes at least their look-ahead
pub record LooksAhead (rules : Rules) (least : ℕ) : Type 0 where
  pub most : (scene : ℕ) → has (rules.firsts (all_scenes rules.film)) scene ≡ true
      → least ≤ step_cost rules.film (all_scenes rules.film) scene + rules.bound (without (all_scenes rules.film) scene)
  pub ahead : ahead rules (all_scenes rules.film) ≤ max (rules.bound (all_scenes rules.film)) least

-- a search that has met nothing but its start
pub record HasBegun (rules : Rules) (start : PathData) (most : ℕ) (begun : SearchData) : Type 0 where
  pub search : IsSearch rules begun
  pub best : begun.best ≡ start
  pub goal : begun.goal ≡ start.paid
  pub nodes : begun.nodes ≡ most
  pub spent : begun.spent ≡ false
