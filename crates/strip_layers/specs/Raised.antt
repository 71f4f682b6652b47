-- Lines that are raised by what is known of the layer below.
use Rattle.std.specs.Prelude.{◌≡◌, ℕ, ◌+◌, ◌<◌, ◌≤◌, ◌^◌, max, true, false, Some, List, length, map, slice_index_or}
use Rattle.strip_mask.specs.Set.{has, without}
use Rattle.strip_model.specs.Film.{FilmData}
use Rattle.strip_film.specs.Path.{PathData}
use Rattle.strip_film.specs.Rules.{Rules}
use Rattle.strip_film.specs.Shoot.{step_cost}
use Rattle.strip_lines.specs.Lines.{known, line_at, with_raised}
use Rattle.strip_rule.specs.Rule.{open_firsts}
use Rattle.strip_layers.specs.declared.layer.Standing.{Standing}
use Rattle.strip_layers.specs.Layer.{standing_at, value_in}
use Rattle.strip_layers.specs.Search.{IsSearch, SearchData}
use Rattle.strip_layers.specs.Walked.{IsLevel, IsStanding}

-- the greatest number that no open first leads below: at most each step with what is known of the set behind it
pub record IsLeastOver (film : FilmData) (sets : List ℕ) (standings : List Standing) (set least : ℕ) : Type 0 where
  pub most : (scene : ℕ) → has (open_firsts film set) scene ≡ true
      → least ≤ step_cost film set scene + value_in sets standings (without set scene)
  pub greatest : (cost : ℕ) → cost < 2 ^ 64
      → ((scene : ℕ) → has (open_firsts film set) scene ≡ true
      → cost ≤ step_cost film set scene + value_in sets standings (without set scene))
      → cost ≤ least

-- the line at a place is raised to such a number, and what it then has is answered
pub record IsRaised (film : FilmData) (sets : List ℕ) (standings : List Standing) (before : SearchData) (place got : ℕ) (after : SearchData)
    : Type 0 where
  pub least : ℕ
  pub is_least : IsLeastOver film sets standings (line_at before.lines place).set least
  pub search : after ≡ record before { lines = with_raised before.lines place least }
  pub answer : got ≡ max (line_at before.lines place).bound least

-- the sets of a layer stand, what stands in the layer below is known, and unless the search is spent, each open set's
-- firsts lead on to values there that reach the limit or the best path
pub record MayRaiseLayer (rules : Rules) (now : SearchData) (most_limit : ℕ) (paths : List PathData) (sets : List ℕ) (standings : List Standing)
    (below : List ℕ) (values : List Standing) : Type 0 where
  pub search : IsSearch rules now
  pub level : (left : ℕ) × (0 < left) × IsLevel rules left paths
  pub small : now.best.paid < 2 ^ 64
  pub sets_are : sets ≡ map (λ path. path.rest) paths
  pub count : length standings ≡ length paths
  pub stand : (place : ℕ) (p : PathData) → place < length paths
      → IsStanding rules now most_limit (slice_index_or paths place p) (standing_at standings place)
  pub most : (set : ℕ) → value_in below values set ≤ known rules now.lines set
  pub reach : (place : ℕ) (p : PathData) (line scene cost : ℕ) → now.spent ≡ false → place < length paths
      → (standing_at standings place).place ≡ Some line → has (rules.firsts (slice_index_or paths place p).rest) scene ≡ true
      → cost ≤ most_limit → cost ≤ now.best.paid
      → cost ≤ (slice_index_or paths place p).paid + step_cost rules.film (slice_index_or paths place p).rest scene
      + value_in below values (without (slice_index_or paths place p).rest scene)
