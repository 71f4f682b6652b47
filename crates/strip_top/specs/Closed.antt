-- How the parts of a search end.
use Rattle.std.specs.Prelude.{ℕ, ◌≤◌}
use Rattle.strip_model.specs.declared.kind.Kind.{Kind}
use Rattle.strip_model.specs.Film.{FilmData}
use Rattle.strip_film.specs.Path.{PathData, IsComplete}
use Rattle.strip_film.specs.Shown.{path_data}
use Rattle.strip_lines.specs.Ended.{IsEnded, ended_data}
use Rattle.strip_solve.specs.declared.plan.Searched.{Searched}
use Rattle.strip_solve.specs.Searched.{IsTrimmed}
use Rattle.strip_top.specs.declared.ending.Closed.{Closed}

-- a search that began with a path has ended so, and its lines are trimmed
pub record IsClosed (kind : Kind) (film : FilmData) (begun : PathData) (most own : ℕ) (closed : Closed) : Type 0 where
  pub ended : IsEnded kind film begun most (ended_data closed.ended)
  pub trimmed : IsTrimmed kind film own (ended_data closed.ended) closed.trimmed

-- a further search of the film began with a path that costs no more than the best order of the one before, and ended so
pub record GoesOnFrom (kind : Kind) (film : FilmData) (cost most own : ℕ) (searched : Searched) : Type 0 where
  pub complete : IsComplete film (path_data searched.begun)
  pub no_dearer : (path_data searched.begun).paid ≤ cost
  pub ended : IsEnded kind film (path_data searched.begun) most (ended_data searched.ended)
  pub trimmed : IsTrimmed kind film own (ended_data searched.ended) searched.trimmed
