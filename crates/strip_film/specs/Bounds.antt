-- Static bounds.
use Rattle.std.specs.Prelude.{ℕ, ◌*◌, sum_by, slice_index}
use Rattle.strip_mask.specs.Set.{members, sum_over}
use Rattle.strip_model.specs.Film.{FilmData}

-- the plain bound: each scene's days for its own cast
abbrev pub plain_bound : FilmData → ℕ → ℕ
plain_bound film set =
    sum_by (λ scene. slice_index film.days scene * sum_over film.rates (slice_index film.casts scene)) (members set)
