-- What the front's lines are raised by.
use Rattle.std.specs.Prelude.{◌≡◌, ◌⊎◌, ℕ, ◌+◌, ◌<◌, ◌≤◌, Some, List, length, slice_index, IsSome}
use Rattle.strip_mask.specs.Set.{without}
use Rattle.strip_model.specs.Film.{FilmData}
use Rattle.strip_film.specs.Film.{all_scenes}
use Rattle.strip_film.specs.Shoot.{step_cost}
use Rattle.strip_bound.specs.Bounds.{bound}
use Rattle.strip_lines.specs.Lines.{ahead, known, line_at}
use Rattle.strip_hand.specs.Hand.{HandData}
use Rattle.strip_hand.specs.Search.{search_rules}
use Rattle.strip_front.specs.Calls.{AllReach, IsWalked}
use Rattle.strip_front.specs.Filled.{IsWhole}
use Rattle.strip_front.specs.Front.{FrontData, line_of, path_at, root_of, task_at}

-- the number of a set: that which was found of the task that leaves it, or that of the path that does
abbrev pub IsNumberOf : FrontData → List ℕ → List ℕ → ℕ → ℕ → Type 0
IsNumberOf front found numbers set number =
    ((task : ℕ) × (task < length front.tasks) × ((task_at front task).rest ≡ set) × (number ≡ slice_index found task))
    ⊎ ((place : ℕ) × (place < length front.paths) × ((path_at front place).rest ≡ set)
    × (number ≡ slice_index numbers place))

-- what a scene reaches while a set remains: its step, and the number of what then remains
abbrev pub ReachesBy : FilmData → FrontData → List ℕ → List ℕ → ℕ → ℕ → ℕ → Type 0
ReachesBy film front found numbers set scene reach =
    (number : ℕ) × IsNumberOf front found numbers (without set scene) number
    × (reach ≡ step_cost film set scene + number)

-- the number of a path: it is at most what is known of what remains, at most the bound of the path's line, and at least
-- the static bound; and where a front leaves out nothing below a value, and each task that is asked for reaches it, so
-- does the path with the number; that of the empty path reaches the look-ahead, if it has a line
pub record ReachesFrom (hand : HandData) (front : FrontData) (found : List ℕ) (place number : ℕ) : Type 0 where
  pub known_of : number ≤ known (search_rules hand.search) hand.lines (path_at front place).rest
  pub raised : (line : ℕ) → line_of front place ≡ Some line → number ≤ (line_at hand.lines line).bound
  pub static_bound : bound hand.search.kind hand.search.film (path_at front place).rest ≤ number
  pub reaches : (value : ℕ) → IsWhole hand.search front value → AllReach front found value
      → value ≤ (path_at front place).paid + number
  pub looks_ahead : place ≡ 0 → IsSome (root_of front)
      → ahead (search_rules hand.search) (all_scenes hand.search.film) ≤ number

-- each path of at least so many scenes has its number
abbrev pub AreRaised : HandData → FrontData → List ℕ → List ℕ → ℕ → Type 0
AreRaised hand front found numbers count =
    (place : ℕ) → place < length front.paths → count ≤ length (path_at front place).scenes
    → ReachesFrom hand front found place (slice_index numbers place)

-- the tasks were walked, the empty path has a line, and each path of at least so many scenes has its number
pub record IsRaisedTo (hand : HandData) (front : FrontData) (found numbers : List ℕ) (count : ℕ) : Type 0 where
  pub walked : IsWalked hand front found
  pub root : IsSome (root_of front)
  pub raised : AreRaised hand front found numbers count
