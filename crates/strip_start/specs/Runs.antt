-- What a run of tries gives, and the cheapest of several paths.
use Rattle.std.specs.Prelude.{◌≡◌, ℕ, List, ◌≤◌, All, Contains}
use Rattle.strip_model.specs.Film.{FilmData}
use Rattle.strip_film.specs.Path.{PathData, IsComplete}
use Rattle.strip_film.specs.Shown.{path_data}
use Rattle.strip_film.specs.declared.path.Path.{Path}

-- a path that a run of so many tries may give: it is complete, and if nothing is tried it is the one that the run begins with
pub record IsRunFrom (film : FilmData) (start : PathData) (tries : ℕ) (path : PathData) : Type 0 where
  pub complete : IsComplete film path
  pub untried : tries ≡ 0 → path ≡ start

-- a cheapest of some paths: one of them, and none of them pays less
pub record IsCheapest (paths : List Path) (path : Path) : Type 0 where
  pub one : Contains paths path
  pub least : All (λ other. (path_data path).paid ≤ (path_data other).paid) paths
