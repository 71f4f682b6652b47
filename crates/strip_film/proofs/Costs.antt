-- Costs stay within the limits.
use Rattle.std.proofs.Common.{◌≡◌, ℕ, ◌+◌, ◌*◌, ◌<◌, ◌≤◌, true, not, List, [], ◌∷◌, length, slice_index, ap, ◌∙◌, arith}
use Rattle.std.proofs.lemmas.Nat.{mul-le}
use Rattle.std.proofs.Math.Nat.{mul-le-mul_left}
use Rattle.strip_mask.specs.Set.{IsSet, has, without, minus, sum_over}
use Rattle.strip_mask.proofs.ByMembers.{IsSet-without, has-minus, has_from_minus}
use Rattle.std.proofs.lemmas.Bool.{and_from}
use Rattle.strip_mask.proofs.Below.{has_full, IsSet-full}
use Rattle.strip_mask.proofs.Totals.{sum_over-without, sum_over_mono, value_le_sum_over, sum_over_le_sum}
use Rattle.strip_model.specs.Film.{FilmData}
use Rattle.strip_film.specs.declared.limits.TheConstants.{MAX_DAY_SUM, MAX_RATE_SUM}
use Rattle.strip_film.specs.Film.{IsFilm, all_scenes}
use Rattle.strip_film.specs.Shoot.{on_location, step_cost}
use Rattle.strip_film.specs.Finish.{steps_cost}
use Rattle.strip_film.proofs.Lists.{AllRemained}

-- what all actors together get for a day at most, some for work and some for waiting
abbrev pub most_a_day : ℕ
most_a_day = MAX_RATE_SUM + MAX_RATE_SUM

-- whoever is paid, all together get at most this for a day
pub rate_limit : (film : FilmData) (actors : ℕ) → IsFilm film → sum_over film.rates actors ≤ MAX_RATE_SUM
rate_limit film actors is = omega (arith, sum_over_le_sum film.rates actors is.actor_count, is.rate_sum)

-- and whoever waits gets at most this
pub hold_limit : (film : FilmData) (actors : ℕ) → IsFilm film → sum_over film.holds actors ≤ MAX_RATE_SUM
hold_limit film actors is =
    let few : length film.holds ≤ 64 = omega (arith, is.hold_count, is.actor_count) in
    omega (arith, sum_over_le_sum film.holds actors few, is.hold_sum)

-- a step costs at most its days at the rate of all actors and the hold rate of all actors
step_small : (film : FilmData) (set scene : ℕ) → IsFilm film → step_cost film set scene ≤ slice_index film.days scene * most_a_day
step_small film set scene is =
    let cast : ℕ = slice_index film.casts scene in
    mul-le-mul_left (slice_index film.days scene) (omega (arith, rate_limit film cast is, hold_limit film (minus (on_location film set) cast) is))

-- the steps along scenes that remained cost at most the days of the set at those rates
steps_small : (film : FilmData) (set : ℕ) (scenes : List ℕ) → IsFilm film → IsSet set → AllRemained set scenes
    → steps_cost film set scenes ≤ sum_over film.days set * most_a_day
steps_small film set [] is lies remained = omega arith
steps_small film set (s ∷ scenes) is lies remained =
    let rest : steps_cost film (without set s) scenes ≤ sum_over film.days (without set s) * most_a_day
    = steps_small film (without set s) scenes is (IsSet-without set s lies) remained.1 in
    let days : sum_over film.days (without set s) + slice_index film.days s ≡ sum_over film.days set = sum_over-without film.days set s lies remained.0 in
    let step : step_cost film set s ≤ slice_index film.days s * most_a_day = step_small film set s is in
    omega (arith, rest, days, step)

pub days_small : (film : FilmData) (set : ℕ) → IsFilm film → sum_over film.days set ≤ MAX_DAY_SUM
days_small film set is =
    let few : length film.days ≤ 64 = omega (arith, is.day_count, is.scene_count.1) in
    omega (arith, sum_over_le_sum film.days set few, is.day_sum)

pub steps_limit : (film : FilmData) (set : ℕ) (scenes : List ℕ) → IsFilm film → IsSet set → AllRemained set scenes
    → steps_cost film set scenes ≤ MAX_DAY_SUM * most_a_day
steps_limit film set scenes is lies remained = omega (arith, steps_small film set scenes is lies remained, days_small film set is)

pub step_limit : (film : FilmData) (set scene : ℕ) → IsFilm film → IsSet set → has set scene ≡ true
    → step_cost film set scene ≤ MAX_DAY_SUM * most_a_day
step_limit film set scene is lies there = omega (arith, steps_limit film set (scene ∷ []) is lies (there, tt))

-- so does a scene with any actors on location
pub scene_limit : (film : FilmData) (on scene : ℕ) → IsFilm film → scene < length film.casts
    → slice_index film.days scene * (sum_over film.rates (slice_index film.casts scene) + sum_over film.holds (minus on (slice_index film.casts scene)))
    ≤ MAX_DAY_SUM * most_a_day
scene_limit film on scene is known =
    let cast : ℕ = slice_index film.casts scene in
    let days : slice_index film.days scene ≤ MAX_DAY_SUM
    = omega (
      arith,
      value_le_sum_over film.days (all_scenes film) scene (IsSet-full (length film.casts) is.scene_count.1) (has_full (length film.casts) scene known),
      days_small film (all_scenes film) is,
    ) in
    mul-le (slice_index film.days scene) (sum_over film.rates cast + sum_over film.holds (minus on cast)) MAX_DAY_SUM most_a_day days
    (omega (arith, rate_limit film cast is, hold_limit film (minus on cast) is))

-- fewer actors on location never cost more
pub step_monotone : (film : FilmData) (scene few many : ℕ) → ((actor : ℕ) → has few actor ≡ true → has many actor ≡ true)
    → slice_index film.days scene * (sum_over film.rates (slice_index film.casts scene) + sum_over film.holds (minus few (slice_index film.casts scene)))
    ≤ slice_index film.days scene * (sum_over film.rates (slice_index film.casts scene) + sum_over film.holds (minus many (slice_index film.casts scene)))
step_monotone film scene few many within =
    let cast : ℕ = slice_index film.casts scene in
    let waiting : sum_over film.holds (minus few cast) ≤ sum_over film.holds (minus many cast)
    = sum_over_mono film.holds (minus few cast) (minus many cast) (λ actor member.
    let parts = has_from_minus few cast actor member in
    has-minus many cast actor ∙ and_from (has many actor) (not (has cast actor)) (within actor parts.0) (ap not parts.1)) in
    mul-le-mul_left (slice_index film.days scene) (omega (arith, waiting))
