-- The paths of a film by parts: the front, and those that begin with each of some tasks. What is known of the lines
-- of each part.
use Rattle.std.specs.Prelude.{◌≡◌, ◌≢◌, ℕ, zero, suc, ◌+◌, ◌<◌, ◌≤◌, ◌==◌, nat_eq, nat_lt, Bool, ◌&&◌, Option, Some, List, [], length, count_by, slice_index_or, All}
use Rattle.std.specs.List.{AllPairs, starts_with}
use Rattle.strip_mask.specs.Sums.{sum_below}
use Rattle.strip_film.specs.declared.shared.Line.{Line}
use Rattle.strip_film.specs.Path.{PathData}
use Rattle.strip_film.specs.Rules.{Rules}
use Rattle.strip_lines.specs.Paths.{is_candidate, leaving, number_up_to}

-- the tasks: paths of the same number of scenes, no two along the same scenes
pub record AreTasks (depth : ℕ) (tasks : List PathData) : Type 0 where
  pub long : All (λ task. length task.scenes ≡ depth) tasks
  pub apart : AllPairs (λ a b. a.scenes ≢ b.scenes) tasks

abbrev pub no_task : PathData
no_task = record { scenes = []; rest = 0; paid = 0 }

-- the path lies in a part: part 0 is the front, the paths that are shorter than the tasks; part 1 is that of the
-- first task, the paths that begin with it, and so on
abbrev pub lies_in : ℕ → List PathData → ℕ → PathData → Bool
lies_in depth tasks zero path = nat_lt (length path.scenes) depth
lies_in depth tasks (suc task) path = starts_with nat_eq path.scenes (slice_index_or tasks task no_task).scenes

-- the path lies in the part and passes the test
abbrev pub inside : ℕ → List PathData → ℕ → (PathData → Bool) → PathData → Bool
inside depth tasks part test path = lies_in depth tasks part path && test path

-- a number that is at most that of the candidates of the part up to its last path
abbrev pub IsShare : Rules → ℕ → ℕ → List PathData → ℕ → Option PathData → ℕ → Type 0
IsShare rules cost depth tasks part last number =
    number ≤ number_up_to rules last (inside depth tasks part (is_candidate rules cost))

-- each part has a share, the shares add up to the number of lines, and the lines of each set are at most as many as
-- the candidates with this set remaining up to the parts' last paths
pub record AreCounted (rules : Rules) (cost depth : ℕ) (tasks : List PathData) (lines : List Line) (last : ℕ → Option PathData)
    (number : ℕ → ℕ) : Type 0 where
  pub shares : (part : ℕ) → part < suc (length tasks) → IsShare rules cost depth tasks part (last part) (number part)
  pub total : sum_below (suc (length tasks)) number ≡ length lines
  pub sets : (set : ℕ) → count_by (λ line. line.set == set) lines
      ≤ sum_below (suc (length tasks)) (λ part. number_up_to rules (last part)
      (inside depth tasks part (leaving set (is_candidate rules cost))))

-- a part gets another last path and one line more, and the other parts stay
pub record Enlists (part : ℕ) (path : PathData) (last last_then : ℕ → Option PathData) (number number_then : ℕ → ℕ) : Type 0 where
  pub last_path : last_then part ≡ Some path
  pub one_more : number_then part ≡ number part + 1
  pub last_stay : (other : ℕ) → other ≢ part → last_then other ≡ last other
  pub number_stay : (other : ℕ) → other ≢ part → number_then other ≡ number other
