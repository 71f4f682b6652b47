-- An actor whose pay is the same in any order.
use Rattle.std.proofs.Common.{◌≡◌, ◌⊎◌, ◌==◌, ℕ, ◌*◌, ◌≤◌, Bool, true, false, cond, ◌||◌, List, [], ◌∷◌, length, sum_by, reverse, refl, sym, ap, ◌∙◌, inl, inr, arith, slice_index, nat_le}
use Rattle.std.specs.List.{list_any}
use Rattle.std.proofs.lemmas.Bool.{cases_Bool, or_cases}
use Rattle.std.proofs.lemmas.Bool.Decides.{nat_tests}
use Rattle.std.proofs.lemmas.List.Sums.{sum_by-cons}
use Rattle.strip_model.specs.Film.{FilmData}
use Rattle.strip_model.specs.Order.{IsOrder}
use Rattle.strip_model.specs.Pay.{works, from_first, to_last, span, day_pay}
use Rattle.strip_model.proofs.Spans.{reverse-sum, to_last-cons, to_last-none}
use Rattle.strip_model.proofs.Counts.{sum-order}
use Rattle.strip_reduce.specs.Steps.{scene_count, work_days, can_drop}

module _ (p : ℕ → Bool) where
  -- what is nothing where he doesn't work adds up to the same over his span as over the order
  sum-from_first : (w : ℕ → ℕ) → ((x : ℕ) → p x ≡ false → w x ≡ 0) → (xs : List ℕ) → sum_by w (from_first p xs) ≡ sum_by w xs
  sum-from_first w none [] = refl
  sum-from_first w none (x ∷ xs) = elim (cases_Bool (p x)) [
    | inl here ↦ rw here refl
    | inr fails ↦ rw fails (omega (arith, none x fails, sum-from_first w none xs, sum_by-cons w x xs))
  ]

  sum-to_last : (w : ℕ → ℕ) → ((x : ℕ) → p x ≡ false → w x ≡ 0) → (xs : List ℕ) → sum_by w (to_last p xs) ≡ sum_by w xs
  sum-to_last w none xs = reverse-sum w (from_first p (reverse xs)) ∙ sum-from_first w none (reverse xs) ∙ reverse-sum w xs

  pub sum-span : (w : ℕ → ℕ) → ((x : ℕ) → p x ≡ false → w x ≡ 0) → (xs : List ℕ) → sum_by w (to_last p (from_first p xs)) ≡ sum_by w xs
  sum-span w none xs = sum-to_last w none (from_first p xs) ∙ sum-from_first w none xs

  -- how often the test passes
  abbrev pub one : ℕ → ℕ
  one x = cond {A = ℕ} (p x) 1 0

  none_passes : (xs : List ℕ) → sum_by one xs ≡ 0 → list_any p xs ≡ false
  none_passes [] zero_times = refl
  none_passes (x ∷ xs) zero_times = elim (cases_Bool (p x)) [
    | inl here ↦ absurd (let first : one x ≡ 1 = rw here refl in omega (arith, zero_times, first, sum_by-cons one x xs))
    | inr fails ↦ rw fails (none_passes xs (omega (arith, zero_times, sum_by-cons one x xs)))
  ]

  -- a span of one scene at most has no waiting in it
  pub short_span : (xs : List ℕ) → sum_by one xs ≤ 1
      → (to_last p (from_first p xs) ≡ []) ⊎ ((x : ℕ) × (to_last p (from_first p xs) ≡ x ∷ []) × (p x ≡ true))
  short_span [] few = inl refl
  short_span (x ∷ xs) few = elim (cases_Bool (p x)) [
    | inl here ↦ (
        let first : one x ≡ 1 = rw here refl in
        let rest : list_any p xs ≡ false = none_passes xs (omega (arith, few, first, sum_by-cons one x xs)) in
        inr (x, rw here (to_last-cons p x xs ∙ rw (here, to_last-none p xs rest) refl), here))
    | inr fails ↦ rw fails (short_span xs (omega (arith, few, sum_by-cons one x xs)))
  ]

-- what he gets for work alone
module _ (film : FilmData) (actor : ℕ) where
  abbrev pub work : ℕ → ℕ
  work scene = cond {A = ℕ} (works film actor scene) (slice_index film.days scene) 0

  no_work : (scene : ℕ) → works film actor scene ≡ false → slice_index film.rates actor * work scene ≡ 0
  no_work scene fails = rw fails (grind arith)

  scaled : (order : List ℕ) → sum_by (λ scene. slice_index film.rates actor * work scene) order ≡ slice_index film.rates actor * sum_by work order
  scaled [] = grind arith
  scaled (x ∷ xs) = sum_by-cons (λ scene. slice_index film.rates actor * work scene) x xs ∙ rw (scaled xs, sum_by-cons work x xs) (grind arith)

  pay_at_work : (scene : ℕ) → works film actor scene ≡ true → day_pay film actor scene ≡ slice_index film.rates actor * work scene
  pay_at_work scene here = rw here (grind arith)

  pay_at_rest : slice_index film.holds actor ≡ 0 → (scene : ℕ) → day_pay film actor scene ≡ slice_index film.rates actor * work scene
  pay_at_rest free scene = elim (cases_Bool (works film actor scene)) [
    | inl here ↦ pay_at_work scene here
    | inr fails ↦ rw (fails, free) (grind arith)
  ]

  on_span : (order : List ℕ) → sum_by (λ scene. slice_index film.rates actor * work scene) (span film order actor) ≡ slice_index film.rates actor * sum_by work order
  on_span order = sum-span (works film actor) (λ scene. slice_index film.rates actor * work scene) no_work order ∙ scaled order

  without_waiting : (order : List ℕ) → (slice_index film.holds actor ≡ 0) ⊎ (sum_by (λ scene. cond {A = ℕ} (works film actor scene) 1 0) order ≤ 1)
      → sum_by (day_pay film actor) (span film order actor) ≡ slice_index film.rates actor * sum_by work order
  without_waiting order (inl free) =
      ap (λ (f : ℕ → ℕ). sum_by f (span film order actor)) (λ i scene. pay_at_rest free scene i) ∙ on_span order
  without_waiting order (inr few) = elim (short_span (works film actor) order few) [
    | inl nothing ↦ (
        let empty : sum_by (λ scene. slice_index film.rates actor * work scene) (span film order actor) ≡ 0 = rw nothing refl in
        rw nothing (sym empty ∙ on_span order))
    | inr one_scene ↦ (
        let here : sum_by (λ scene. slice_index film.rates actor * work scene) (span film order actor) ≡ slice_index film.rates actor * work one_scene.0
        = rw one_scene.1 (omega arith) in
        let paid : sum_by (day_pay film actor) (span film order actor) ≡ day_pay film actor one_scene.0 = rw one_scene.1 (omega arith) in
        paid ∙ pay_at_work one_scene.0 one_scene.2 ∙ sym here ∙ on_span order)
  ]

  -- in any order he gets his rate for the days of his scenes
  pub fixed_pay : (order : List ℕ) → IsOrder (length film.casts) order → can_drop film actor ≡ true
      → sum_by (day_pay film actor) (span film order actor) ≡ slice_index film.rates actor * work_days film actor
  fixed_pay order is can =
      without_waiting order (why (slice_index film.holds actor) (scene_count film actor) can (sym (sum-order (length film.casts) (λ scene. cond {A = ℕ} (works film actor scene) 1 0) order is)))
      ∙ ap (λ (days : ℕ). slice_index film.rates actor * days) (sum-order (length film.casts) work order is)
    where
      why : (hold count : ℕ) → (hold == 0 || nat_le count 1) ≡ true → count ≡ sum_by (λ scene. cond {A = ℕ} (works film actor scene) 1 0) order
          → (hold ≡ 0) ⊎ (sum_by (λ scene. cond {A = ℕ} (works film actor scene) 1 0) order ≤ 1)
      why hold count can same = elim (or_cases (hold == 0) (nat_le count 1) can) [ inl free ↦ inl (grind (arith, nat_tests)) | inr few ↦ inr (let least : count ≤ 1 = grind (arith, nat_tests) in omega (arith, least, same)) ]
