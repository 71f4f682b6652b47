-- What actors cost who wait is small.
use Rattle.std.proofs.Common.{ℕ, ◌+◌, ◌*◌, ◌<◌, ◌≤◌, ◌^◌, length, slice_index, arith}
use Rattle.std.proofs.Math.Nat.{mul-le-mul_left}
use Rattle.strip_mask.specs.Set.{LiesBelow, meet, minus, sum_over}
use Rattle.strip_mask.proofs.ByMembers.{has_from_meet}
use Rattle.strip_model.specs.Film.{FilmData}
use Rattle.strip_film.specs.declared.limits.TheConstants.{MAX_DAY_SUM}
use Rattle.strip_film.specs.Film.{IsFilm}
use Rattle.strip_film.proofs.Casts.{cast_lies}
use Rattle.strip_film.proofs.Costs.{most_a_day, scene_limit}
use Rattle.strip_start.specs.Sides.{wait_cost}

pub wait_small : (film : FilmData) (actors scene : ℕ) → IsFilm film → scene < length film.casts → wait_cost film actors scene < 2 ^ 61
wait_small film actors scene is known =
    let cast : ℕ = slice_index film.casts scene in
    let whole : slice_index film.days scene * (sum_over film.rates cast + sum_over film.holds (minus actors cast)) ≤ MAX_DAY_SUM * most_a_day
    = scene_limit film actors scene is known in
    let part : slice_index film.days scene * sum_over film.holds (minus actors cast)
    ≤ slice_index film.days scene * (sum_over film.rates cast + sum_over film.holds (minus actors cast))
    = mul-le-mul_left (slice_index film.days scene) (omega arith) in
    omega (arith, whole, part)

-- actors of a scene are actors of the film
pub some_of_cast : (film : FilmData) (scene actors : ℕ) → IsFilm film → LiesBelow (length film.rates) (meet (slice_index film.casts scene) actors)
some_of_cast film scene actors is i member = cast_lies film scene is i (has_from_meet (slice_index film.casts scene) actors i member).0
