-- What a path paid and the static bound of what remains fit a word together.
use Rattle.std.proofs.Common.{◌≡◌, ℕ, ◌+◌, ◌<◌, ◌^◌, arith}
use Rattle.strip_model.specs.declared.kind.Kind.{Kind}
use Rattle.strip_model.specs.Film.{FilmData}
use Rattle.strip_film.specs.Film.{IsFilm}
use Rattle.strip_film.specs.Path.{IsPath, PathData}
use Rattle.strip_film.proofs.Paths.{rest_lies, path_limit}
use Rattle.strip_bound.specs.Bounds.{bound}
use Rattle.strip_bound.proofs.Small.{bound_small}

pub reach_fits : (kind : Kind) (film : FilmData) (path : PathData) (paid static : ℕ) → IsFilm film → IsPath film path
    → paid ≡ path.paid → static ≡ bound kind film path.rest → paid + static < 2 ^ 64
reach_fits kind film path paid static is along one two =
    omega (arith, one, two, path_limit film path along is, bound_small kind film path.rest is (rest_lies film path along))
