-- The front of a search: its tasks, the paths that are shorter than these, and their lines.
use Rattle.std.specs.Prelude.{◌≡◌, ◌↔◌, ℕ, ◌<◌, ◌≤◌, Bool, false, Option, None, List, length, replicate, slice_index_or, Contains}
use Rattle.std.specs.List.{AllPairs}
use Rattle.strip_model.specs.Film.{FilmData}
use Rattle.strip_film.specs.Film.{all_scenes}
use Rattle.strip_film.specs.Path.{PathData}
use Rattle.strip_film.specs.Ranks.{IsEarlier}
use Rattle.strip_film.specs.Rules.{Rules}
use Rattle.strip_lines.specs.Parts.{no_task}
use Rattle.strip_front.specs.Layers.{AreTasksOf, layer}

-- how many scenes a task has; the tasks; which of them are asked for; the shorter paths, and for each of these its line
pub record FrontData : Type 0 where
  pub depth : ℕ
  pub tasks : List PathData
  pub wanted : List Bool
  pub paths : List PathData
  pub lines : List (Option ℕ)

abbrev pub task_at : FrontData → ℕ → PathData
task_at front task = slice_index_or front.tasks task no_task

abbrev pub is_wanted : FrontData → ℕ → Bool
is_wanted front task = slice_index_or front.wanted task false

abbrev pub path_at : FrontData → ℕ → PathData
path_at front place = slice_index_or front.paths place no_task

abbrev pub line_of : FrontData → ℕ → Option ℕ
line_of front place = slice_index_or front.lines place None

-- the line of the empty path, which is the first one
abbrev pub root_of : FrontData → Option ℕ
root_of front = line_of front 0

-- a task may have so many scenes: not more than the film, and one only where the film has one
pub record IsDepth (film : FilmData) (depth : ℕ) : Type 0 where
  pub some : 1 ≤ depth
  pub most : depth ≤ length film.casts
  pub one : depth ≡ 1 → length film.casts ≡ 1
  pub few : depth ≤ 4

-- the paths that are shorter than the tasks: those of each layer before theirs, where an earlier one stands before a
-- later one
pub record AreShorter (rules : Rules) (depth : ℕ) (paths : List PathData) : Type 0 where
  pub same : (path : PathData) → Contains paths path
      ↔ ((length path.scenes < depth) × Contains (layer rules.film (length path.scenes)) path)
  pub rise : AllPairs (λ a b. IsEarlier rules (all_scenes rules.film) a.scenes b.scenes) paths

-- the front of a search by these rules
pub record IsFrontOf (rules : Rules) (front : FrontData) : Type 0 where
  pub depth : IsDepth rules.film front.depth
  pub tasks : AreTasksOf rules front.depth front.tasks
  pub wanted : length front.wanted ≡ length front.tasks
  pub paths : AreShorter rules front.depth front.paths
  pub lines : length front.lines ≡ length front.paths

-- the front with nothing in it: no task is asked for, and no path has a line
pub record IsEmptyFront (rules : Rules) (front : FrontData) : Type 0 where
  pub front_of : IsFrontOf rules front
  pub wanted : front.wanted ≡ replicate (length front.tasks) false
  pub lines : front.lines ≡ replicate (length front.paths) None
