-- The bounds, and what they are made of, stay small.
use Rattle.std.proofs.Common.{ℕ, ◌*◌, ◌^◌, ◌<◌, ◌≤◌, length, slice_index, inl, inr, arith}
use Rattle.std.proofs.lemmas.Bool.{cases_lt}
use Rattle.std.proofs.lemmas.List.{get_or_past}
use Rattle.std.proofs.Math.Nat.{mul-le-mul_left, mul-le-mul_right}
use Rattle.strip_mask.specs.Set.{IsSet, with, sum_over}
use Rattle.strip_mask.proofs.ByMembers.{has-with_same, IsSet-empty, IsSet-with}
use Rattle.strip_mask.proofs.Below.{is_set_below}
use Rattle.strip_mask.proofs.Totals.{value_le_sum_over}
use Rattle.strip_model.specs.declared.kind.Kind.{Kind}
use Rattle.strip_model.specs.Film.{FilmData}
use Rattle.strip_film.specs.Film.{IsFilm, LiesIn}
use Rattle.strip_film.specs.Finish.{steps_cost}
use Rattle.strip_film.proofs.Costs.{days_small, hold_limit, rate_limit, steps_limit}
use Rattle.strip_film.proofs.Least.{finish_exists}
use Rattle.strip_film.proofs.Lists.{AllRemained-from_ready}
use Rattle.strip_bound.specs.Bounds.{bound}
use Rattle.strip_bound.proofs.Finish.{bound_finishes}

-- a bound is at most some tail
pub bound_small : (kind : Kind) (film : FilmData) (set : ℕ) → IsFilm film → LiesIn film set → bound kind film set < 2 ^ 63
bound_small kind film set is lies =
    let is_set : IsSet set = is_set_below (length film.casts) set is.scene_count.1 lies in
    let found = finish_exists film is set is_set in
    let list = found.1.attained in
    let most : bound kind film set ≤ steps_cost film set list.0 = bound_finishes kind film set is lies list.0 list.1 in
    omega (arith, most, steps_limit film set list.0 is is_set (AllRemained-from_ready film set list.0 list.1.0))

hold_small : (film : FilmData) (actor : ℕ) → IsFilm film → actor < 64 → slice_index film.holds actor ≤ 64000000000
hold_small film actor is known =
    let value : slice_index film.holds actor ≤ sum_over film.holds (with 0 actor)
    = value_le_sum_over film.holds (with 0 actor) actor (IsSet-with 0 actor IsSet-empty known) (has-with_same 0 actor) in
    omega (arith, value, hold_limit film (with 0 actor) is)

product_small : (a b m n : ℕ) → a ≤ m → b ≤ n → a * b ≤ m * n
product_small a b m n le_m le_n =
    let first : a * b ≤ a * n = mul-le-mul_left a le_n in
    let second : a * n ≤ m * n = mul-le-mul_right n le_m in
    omega (arith, first, second)

-- the waiting of one actor
pub wait_small : (film : FilmData) (actor days : ℕ) → IsFilm film → actor < 64 → days ≤ 19800 → slice_index film.holds actor * days < 2 ^ 63
wait_small film actor days is known few =
    omega (arith, product_small (slice_index film.holds actor) days 64000000000 19800 (hold_small film actor is known) few)

-- a scene's days at the rates of a cast
pub weight_small : (film : FilmData) (scene cast : ℕ) → IsFilm film → slice_index film.days scene * sum_over film.rates cast < 2 ^ 63
weight_small film scene cast is =
    let days : slice_index film.days scene ≤ 19800 = elim (cases_lt scene 64) [
      | inl below ↦ omega (
        arith,
        value_le_sum_over film.days (with 0 scene) scene (IsSet-with 0 scene IsSet-empty below) (has-with_same 0 scene),
        days_small film (with 0 scene) is,
      )
      | inr past ↦ omega (arith, get_or_past film.days scene 0 (omega (arith, is.day_count, is.scene_count.1, past)))
    ] in
    let pay : sum_over film.rates cast ≤ 64000000000 = omega (arith, rate_limit film cast is) in
    omega (arith, product_small (slice_index film.days scene) (sum_over film.rates cast) 19800 64000000000 days pay)
