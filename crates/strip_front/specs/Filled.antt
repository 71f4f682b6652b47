-- What a front tells of a search, once it was gone down.
use Rattle.std.specs.Prelude.{◌≡◌, ◌↔◌, ℕ, ◌+◌, ◌<◌, ◌≤◌, true, Some, None, List, length, IsSome}
use Rattle.strip_mask.specs.Set.{has, without}
use Rattle.strip_model.specs.Film.{FilmData}
use Rattle.strip_film.specs.declared.shared.Line.{Line}
use Rattle.strip_film.specs.Film.{all_scenes}
use Rattle.strip_bound.specs.Bounds.{bound}
use Rattle.strip_rule.specs.Rule.{open_firsts}
use Rattle.strip_lines.specs.Lines.{line_at}
use Rattle.strip_hand.specs.Hand.{HandData}
use Rattle.strip_hand.specs.Search.{SearchData}
use Rattle.strip_front.specs.Front.{FrontData, is_wanted, line_of, path_at, root_of, task_at}

-- a line of this number and set is known
pub record HasLine (lines : List Line) (line set : ℕ) : Type 0 where
  pub there : line < length lines
  pub leaves : (line_at lines line).set ≡ set

-- the set is what one of the open firsts of another leaves of it
abbrev pub Follows : FilmData → ℕ → ℕ → Type 0
Follows film from set = (scene : ℕ) × (has (open_firsts film from) scene ≡ true) × (set ≡ without from scene)

-- the task is asked for: what remains after it follows from what remains after a path that has a line, whichever path
-- that is
abbrev pub IsWanted : FilmData → FrontData → ℕ → Type 0
IsWanted film front task =
    (place : ℕ) × (place < length front.paths) × IsSome (line_of front place)
    × Follows film (path_at front place).rest (task_at front task).rest

-- the front's lines are known to the hand, with what remains after their paths; a path has one only where the empty
-- path has one
abbrev pub HasLines : HandData → FrontData → Type 0
HasLines hand front =
    (place line : ℕ) → place < length front.paths → line_of front place ≡ Some line
    → IsSome (root_of front) × HasLine hand.lines line (path_at front place).rest

-- and just the tasks that follow are asked for
pub record IsFilled (hand : HandData) (front : FrontData) : Type 0 where
  pub lines : HasLines hand front
  pub wanted : (task : ℕ) → task < length front.tasks → (is_wanted front task ≡ true)
      ↔ IsWanted hand.search.film front task

-- the front leaves out nothing that is below the value: without a line of the empty path the static bound of all scenes
-- reaches it, and each path without a line reaches it by what it paid and the static bound of what remains
pub record IsWhole (search : SearchData) (front : FrontData) (value : ℕ) : Type 0 where
  pub none : root_of front ≡ None → value ≤ bound search.kind search.film (all_scenes search.film)
  pub paths : IsSome (root_of front) → (place : ℕ) → place < length front.paths → line_of front place ≡ None
      → value ≤ (path_at front place).paid + bound search.kind search.film (path_at front place).rest
