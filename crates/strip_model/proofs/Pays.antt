-- What an order pays at most, and what its reverse pays.
use Rattle.std.proofs.Common.{◌≡◌, ℕ, ◌+◌, ◌*◌, ◌<◌, ◌≤◌, ◌^◌, true, false, cond, List, [], ◌∷◌, length, reverse, sum, sum_by, slice_index, sym, ap, ◌∙◌, arith}
use Rattle.std.proofs.Math.Nat.{mul-le-mul}
use Rattle.std.proofs.lemmas.List.Sums.{sum_by-cons}
use Rattle.strip_mask.specs.Sums.{sum_below}
use Rattle.strip_mask.proofs.Sums.{sum_below-ext, sum_below-scale, sum_below-add, sum_below_mono, sum_below-slice}
use Rattle.strip_mask.proofs.Totals.{sum_by_mono}
use Rattle.strip_model.specs.Film.{FilmData}
use Rattle.strip_model.specs.Order.{IsOrder}
use Rattle.strip_model.specs.Pay.{works, day_pay, span, pay_of}
use Rattle.strip_model.proofs.Counts.{sum-order}
use Rattle.strip_model.proofs.Spans.{sum-span, sum-span_reverse}

pub pay-reverse : (film : FilmData) (order : List ℕ) → pay_of film (reverse order) ≡ pay_of film order
pay-reverse film order =
    sum_below-ext (length film.rates) (λ actor. sum_by (day_pay film actor) (span film (reverse order) actor)) (λ actor. sum_by (day_pay film actor) (span film order actor))
    (λ actor lt. sum-span_reverse (works film actor) (day_pay film actor) order)

-- sums of lesser and of scaled values
sum_by_scaled : (c : ℕ) (f : ℕ → ℕ) (xs : List ℕ) → sum_by (λ x. c * f x) xs ≡ c * sum_by f xs
sum_by_scaled c f [] = omega arith
sum_by_scaled c f (x ∷ xs) = sum_by-cons (λ y. c * f y) x xs ∙ rw (sum_by_scaled c f xs, sum_by-cons f x xs) (grind arith)

day_pay_most : (film : FilmData) (actor scene : ℕ)
    → day_pay film actor scene ≤ (slice_index film.rates actor + slice_index film.holds actor) * slice_index film.days scene
day_pay_most film actor scene =
    elim (works film actor scene) as (λ b. slice_index film.days scene * cond b (slice_index film.rates actor) (slice_index film.holds actor)
    ≤ (slice_index film.rates actor + slice_index film.holds actor) * slice_index film.days scene) [
      | true ↦ grind arith
      | false ↦ grind arith
    ]

actor_most : (film : FilmData) (order : List ℕ) (actor : ℕ) → IsOrder (length film.days) order
    → sum_by (day_pay film actor) (span film order actor) ≤ sum film.days * (slice_index film.rates actor + slice_index film.holds actor)
actor_most film order actor is =
    let both : ℕ = slice_index film.rates actor + slice_index film.holds actor in
    let within : sum_by (day_pay film actor) (span film order actor) ≤ sum_by (day_pay film actor) order = sum-span (works film actor) (day_pay film actor) order in
    let each : sum_by (day_pay film actor) order ≤ sum_by (λ scene. both * slice_index film.days scene) order
    = sum_by_mono (day_pay film actor) (λ scene. both * slice_index film.days scene) order (day_pay_most film actor) in
    let scaled : sum_by (λ scene. both * slice_index film.days scene) order ≡ both * sum_by (slice_index film.days) order = sum_by_scaled both (slice_index film.days) order in
    let whole : sum_by (slice_index film.days) order ≡ sum film.days = sum-order (length film.days) (slice_index film.days) order is ∙ sum_below-slice film.days in
    let turned : both * sum_by (slice_index film.days) order ≡ sum film.days * both = rw whole (grind arith) in
    omega (arith, within, each, scaled, turned)

pub pay_most : (film : FilmData) (order : List ℕ) → length film.holds ≡ length film.rates → IsOrder (length film.days) order
    → pay_of film order ≤ sum film.days * (sum film.rates + sum film.holds)
pay_most film order same is =
    let each : pay_of film order ≤ sum_below (length film.rates) (λ actor. sum film.days * (slice_index film.rates actor + slice_index film.holds actor))
    = sum_below_mono (length film.rates) (λ actor. sum_by (day_pay film actor) (span film order actor))
    (λ actor. sum film.days * (slice_index film.rates actor + slice_index film.holds actor)) (λ actor lt. actor_most film order actor is) in
    let scaled : sum_below (length film.rates) (λ actor. sum film.days * (slice_index film.rates actor + slice_index film.holds actor))
    ≡ sum film.days * sum_below (length film.rates) (λ actor. slice_index film.rates actor + slice_index film.holds actor)
    = sum_below-scale (length film.rates) (sum film.days) (λ actor. slice_index film.rates actor + slice_index film.holds actor) in
    let split : sum_below (length film.rates) (λ actor. slice_index film.rates actor + slice_index film.holds actor) ≡ sum film.rates + sum film.holds
    = sum_below-add (length film.rates) (slice_index film.rates) (slice_index film.holds)
    ∙ ap (λ (n : ℕ). n + sum_below (length film.rates) (slice_index film.holds)) (sum_below-slice film.rates)
    ∙ ap (λ (n : ℕ). sum film.rates + n) (ap (λ (n : ℕ). sum_below n (slice_index film.holds)) (sym same) ∙ sum_below-slice film.holds) in
    rw (← split, ← scaled) each

pub pay_small : (film : FilmData) (order : List ℕ) → length film.holds ≡ length film.rates → IsOrder (length film.days) order
    → sum film.days ≤ 19800 → sum film.rates ≤ 64000000000 → sum film.holds ≤ 64000000000 → pay_of film order < 2 ^ 63
pay_small film order same is days rates holds =
    let both : sum film.rates + sum film.holds ≤ 128000000000 = omega (arith, rates, holds) in
    let most : sum film.days * (sum film.rates + sum film.holds) ≤ 19800 * 128000000000 = mul-le-mul days both in
    omega (arith, pay_most film order same is, most)
