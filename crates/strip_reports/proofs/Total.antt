-- The pay of all rows is the pay of the order.
use Rattle.std.proofs.Common.{◌≡◌, ℕ, ◌+◌, ◌*◌, Bool, true, false, cond, not, ◌&&◌, ◌||◌, List, length, take, drop, slice_index, refl, sym, ap, ◌∙◌, arith, add-one}
use Rattle.strip_mask.specs.Sums.{sum_below}
use Rattle.strip_mask.proofs.Sums.{sum_below-ext, sum_below-scale, sum_below-swap}
use Rattle.strip_model.specs.Film.{FilmData}
use Rattle.strip_model.specs.Pay.{day_pay, pay_of, works}
use Rattle.strip_reports.specs.Days.{day_rate, pay_at, scene_at, works_among}
use Rattle.strip_reports.specs.Sheet.{total_pay}
use Rattle.strip_model.proofs.Walk.{paid_after-new}
use Rattle.strip_reports.proofs.Walk.{by_places, paid_at}

-- who works is paid at his rate, and who is held at his hold rate
by_tests : (now before behind : Bool) (days rate hold : ℕ)
    → days * cond now rate (cond (before && behind && not now) hold 0) ≡ cond (now || ((false || before) && behind)) (days * cond now rate hold) 0
by_tests true before behind days rate hold = refl
by_tests false true true days rate hold = refl
by_tests false true false days rate hold = omega arith
by_tests false false behind days rate hold = omega arith

-- what an actor gets at a place
at_place : (film : FilmData) (order : List ℕ) (place actor : ℕ)
    → slice_index film.days (scene_at order place) * day_rate film order place actor ≡ paid_at false (works film actor) (day_pay film actor) order place
at_place film order place actor =
    by_tests (works film actor (scene_at order place)) (works_among film (take place order) actor) (works_among film (drop (place + 1) order) actor)
    (slice_index film.days (scene_at order place)) (slice_index film.rates actor) (slice_index film.holds actor)
    ∙ ap (λ (i : ℕ). cond (works film actor (scene_at order place) || (works_among film (take place order) actor && works_among film (drop i order) actor)) (day_pay film actor (scene_at order place)) 0) (add-one place)

-- the rows by actors: no row is needed to be one of an order
pub total_is_pay : (film : FilmData) (order : List ℕ) → total_pay film order ≡ pay_of film order
total_is_pay film order =
    let n : ℕ = length film.rates in
    let paid : ℕ → ℕ → ℕ = λ actor. paid_at false (works film actor) (day_pay film actor) order in
    sum_below-ext (length order) (pay_at film order) (λ place. sum_below n (λ actor. paid actor place)) (λ place _.
    sym (sum_below-scale n (slice_index film.days (scene_at order place)) (day_rate film order place))
    ∙ sum_below-ext n (λ actor. slice_index film.days (scene_at order place) * day_rate film order place actor) (λ actor. paid actor place) (λ actor _. at_place film order place actor))
    ∙ sum_below-swap (length order) n (λ place actor. paid actor place)
    ∙ sum_below-ext n (λ actor. sum_below (length order) (paid actor)) _ (λ actor _.
    by_places false (works film actor) (day_pay film actor) order ∙ paid_after-new (works film actor) (day_pay film actor) order)
