-- Two scenes of equal cast can stand together.
use Rattle.std.proofs.Common.{◌≡◌, ◌⊎◌, ℕ, ◌+◌, ◌*◌, ◌<◌, ◌≤◌, Bool, true, false, cond, ◌||◌, ◌&&◌, List, [], ◌∷◌, ◌++◌, length, sum_by, slice_index, inl, inr, sym, ap, ◌∙◌, arith, append_assoc, le_of_lt}
use Rattle.std.specs.List.{list_any}
use Rattle.std.proofs.Math.Nat.{mul-le-mul_left}
use Rattle.std.proofs.lemmas.Bool.{cases_Bool, cases_lt, or_left}
use Rattle.std.proofs.lemmas.List.Folds.{list_any-append}
use Rattle.std.proofs.lemmas.List.Sums.{sum_by-cons, sum_by-append}
use Rattle.strip_mask.specs.Set.{has}
use Rattle.strip_mask.specs.Sums.{sum_below}
use Rattle.strip_mask.proofs.Sums.{sum_below-ext, sum_below-add, sum_below-scale, sum_below_mono}
use Rattle.strip_model.specs.Film.{FilmData}
use Rattle.strip_model.specs.Pay.{works, from_first, to_last, day_pay, pay_of}
use Rattle.strip_model.proofs.Seams.{to_last-append_some, to_last-front, paid, paid-passing, paid-waiting, sum-from_first_append, sum-to_last_append}

-- what a day of waiting between two lists costs an actor: nothing where he works in the scene, or in none of one of the lists
abbrev waiting : (ℕ → Bool) → ℕ → ℕ → List ℕ → List ℕ → ℕ
waiting p hold x before behind = cond (p x) 0 (cond (list_any p before && list_any p behind) hold 0)

-- the orders with the two scenes apart, both at the earlier place, both at the later place
abbrev split : List ℕ → List ℕ → List ℕ → ℕ → ℕ → List ℕ
split before between behind a b = before ++ (a ∷ (between ++ (b ∷ behind)))

abbrev early : List ℕ → List ℕ → List ℕ → ℕ → ℕ → List ℕ
early before between behind a b = before ++ (a ∷ b ∷ (between ++ behind))

abbrev late : List ℕ → List ℕ → List ℕ → ℕ → ℕ → List ℕ
late before between behind a b = before ++ (between ++ (a ∷ b ∷ behind))

module _ (p : ℕ → Bool) (f : ℕ → ℕ) (before between behind : List ℕ) (a b : ℕ) where
  sum-to_last_front : (x : ℕ) (xs : List ℕ) → p x ≡ true → sum_by f (to_last p (x ∷ xs)) ≡ f x + sum_by f (to_last p xs)
  sum-to_last_front x xs passes =
      let e : to_last p (x ∷ xs) ≡ x ∷ to_last p xs = to_last-front p x xs (or_left (p x) (list_any p xs) passes) in
      ap (sum_by f) e ∙ sum_by-cons f x (to_last p xs)

  regrouped : (ys : List ℕ) → paid p f (before ++ (between ++ ys)) ≡ paid p f ((before ++ between) ++ ys)
  regrouped ys = ap (paid p f) (sym (append_assoc before between ys))

  -- ---- an actor who works in both

  module _ (in_a : p a ≡ true) (in_b : p b ≡ true) where
    split-passing : paid p f (split before between behind a b)
        ≡ sum_by f (from_first p before) + (f a + (sum_by f between + (f b + sum_by f (to_last p behind))))
    split-passing =
        let e : sum_by f (to_last p (between ++ b ∷ behind)) ≡ sum_by f between + sum_by f (to_last p (b ∷ behind))
        = ap (sum_by f) (to_last-append_some p between (b ∷ behind) (or_left (p b) (list_any p behind) in_b)) ∙ sum_by-append f between (to_last p (b ∷ behind)) in
        omega (arith, paid-passing p f before a (between ++ b ∷ behind) in_a, e, sum-to_last_front b behind in_b)

    early-passing : paid p f (early before between behind a b) ≤ paid p f (split before between behind a b)
    early-passing = omega (
      arith,
      split-passing,
      paid-passing p f before a (b ∷ (between ++ behind)) in_a,
      sum-to_last_front b (between ++ behind) in_b,
      sum-to_last_append p f between behind,
    )

    late-passing : paid p f (late before between behind a b) ≤ paid p f (split before between behind a b)
    late-passing = omega (
      arith,
      split-passing,
      regrouped (a ∷ b ∷ behind),
      paid-passing p f (before ++ between) a (b ∷ behind) in_a,
      sum-to_last_front b behind in_b,
      sum-from_first_append p f before between,
    )

  -- ---- one who works in neither

  module _ (out_a : p a ≡ false) (out_b : p b ≡ false) where
    -- what he gets for a scene at the earlier place, and at the later place
    abbrev at_early : ℕ → ℕ
    at_early x = cond (list_any p before && list_any p (between ++ behind)) (f x) 0

    abbrev at_late : ℕ → ℕ
    at_late x = cond (list_any p (before ++ between) && list_any p behind) (f x) 0

    past_b : list_any p (between ++ (b ∷ behind)) ≡ list_any p (between ++ behind)
    past_b =
        list_any-append p between (b ∷ behind) ∙ ap (λ (t : Bool). list_any p between || (t || list_any p behind)) out_b ∙ sym (list_any-append p between behind)

    split-waiting : paid p f (split before between behind a b) ≡ (paid p f ((before ++ between) ++ behind) + at_late b) + at_early a
    split-waiting =
        paid-waiting p f before a (between ++ (b ∷ behind)) out_a
        ∙ ap (λ (t : Bool). paid p f (before ++ (between ++ (b ∷ behind))) + cond (list_any p before && t) (f a) 0) past_b
        ∙ ap (λ (n : ℕ). n + at_early a) (regrouped (b ∷ behind) ∙ paid-waiting p f (before ++ between) b behind out_b)

    early-waiting : paid p f (early before between behind a b) ≡ (paid p f ((before ++ between) ++ behind) + at_early b) + at_early a
    early-waiting =
        paid-waiting p f before a (b ∷ (between ++ behind)) out_a
        ∙ ap (λ (t : Bool). paid p f (before ++ (b ∷ (between ++ behind))) + cond (list_any p before && (t || list_any p (between ++ behind))) (f a) 0) out_b
        ∙ ap (λ (n : ℕ). n + at_early a) (paid-waiting p f before b (between ++ behind) out_b ∙ ap (λ (n : ℕ). n + at_early b) (regrouped behind))

    late-waiting : paid p f (late before between behind a b) ≡ (paid p f ((before ++ between) ++ behind) + at_late b) + at_late a
    late-waiting =
        regrouped (a ∷ b ∷ behind) ∙ paid-waiting p f (before ++ between) a (b ∷ behind) out_a
        ∙ ap (λ (t : Bool). paid p f ((before ++ between) ++ (b ∷ behind)) + cond (list_any p (before ++ between) && (t || list_any p behind)) (f a) 0) out_b
        ∙ ap (λ (n : ℕ). n + at_late a) (paid-waiting p f (before ++ between) b behind out_b)

  -- ---- both, by what a day of waiting costs at the two places

  module _ (same : p a ≡ p b) (days_a days_b hold : ℕ) (pay_a : p a ≡ false → f a ≡ days_a * hold) (pay_b : p b ≡ false → f b ≡ days_b * hold) where
    abbrev cost_early : ℕ
    cost_early = waiting p hold a before (between ++ behind)

    abbrev cost_late : ℕ
    cost_late = waiting p hold a (before ++ between) behind

    scaled : (t : Bool) (n x : ℕ) → x ≡ n * hold → cond t x 0 ≡ n * cond t hold 0
    scaled true n x e = e
    scaled false n x e = omega arith

    early_costs : paid p f (early before between behind a b) + days_b * cost_late ≤ paid p f (split before between behind a b) + days_b * cost_early
    early_costs = elim (cases_Bool (p a)) [
      | inl passes ↦ rw passes (omega (arith, early-passing passes (sym same ∙ passes)))
      | inr fails ↦ (let out : p b ≡ false = sym same ∙ fails in
          rw fails (omega (
            arith,
            early-waiting fails out,
            split-waiting fails out,
            scaled (list_any p before && list_any p (between ++ behind)) days_b (f b) (pay_b out),
            scaled (list_any p (before ++ between) && list_any p behind) days_b (f b) (pay_b out),
          )))
    ]

    late_costs : paid p f (late before between behind a b) + days_a * cost_early ≤ paid p f (split before between behind a b) + days_a * cost_late
    late_costs = elim (cases_Bool (p a)) [
      | inl passes ↦ rw passes (omega (arith, late-passing passes (sym same ∙ passes)))
      | inr fails ↦ (let out : p b ≡ false = sym same ∙ fails in
          rw fails (omega (
            arith,
            late-waiting fails out,
            split-waiting fails out,
            scaled (list_any p before && list_any p (between ++ behind)) days_a (f a) (pay_a fails),
            scaled (list_any p (before ++ between) && list_any p behind) days_a (f a) (pay_a fails),
          )))
    ]

  -- ---- side by side, in either order

  swapped_pair : p a ≡ p b → paid p f (before ++ (b ∷ a ∷ behind)) ≡ paid p f (before ++ (a ∷ b ∷ behind))
  swapped_pair same = elim (cases_Bool (p a)) [
    | inl passes ↦ (let in_b : p b ≡ true = sym same ∙ passes in
        omega (
          arith,
          paid-passing p f before b (a ∷ behind) in_b,
          paid-passing p f before a (b ∷ behind) passes,
          sum-to_last_front a behind passes,
          sum-to_last_front b behind in_b,
        ))
    | inr fails ↦ (let out : p b ≡ false = sym same ∙ fails in
        omega (arith, two b a out fails, two a b fails out))
  ]
    where
      waits : ℕ → ℕ
      waits x = cond (list_any p before && list_any p behind) (f x) 0

      two : (x y : ℕ) → p x ≡ false → p y ≡ false → paid p f (before ++ (x ∷ y ∷ behind)) ≡ (paid p f (before ++ behind) + waits y) + waits x
      two x y out_x out_y =
          paid-waiting p f before x (y ∷ behind) out_x
          ∙ ap (λ (t : Bool). paid p f (before ++ (y ∷ behind)) + cond (list_any p before && (t || list_any p behind)) (f x) 0) out_y
          ∙ ap (λ (n : ℕ). n + waits x) (paid-waiting p f before y behind out_y)

-- ---- over all actors

totals : (n c : ℕ) (f g u v : ℕ → ℕ) → ((i : ℕ) → i < n → f i + c * u i ≤ g i + c * v i)
    → sum_below n f + c * sum_below n u ≤ sum_below n g + c * sum_below n v
totals n c f g u v le = omega (
  arith,
  sum_below_mono n (λ i. f i + c * u i) (λ i. g i + c * v i) le,
  sum_below-add n f (λ i. c * u i),
  sum_below-add n g (λ i. c * v i),
  sum_below-scale n c u,
  sum_below-scale n c v,
)

module _ (film : FilmData) (a b : ℕ) (same : slice_index film.casts a ≡ slice_index film.casts b) where
  same_work : (actor : ℕ) → works film actor a ≡ works film actor b
  same_work actor = ap (λ (cast : ℕ). has cast actor) same

  held : (actor x : ℕ) → works film actor x ≡ false → day_pay film actor x ≡ slice_index film.days x * slice_index film.holds actor
  held actor x out = ap (λ (t : Bool). slice_index film.days x * cond t (slice_index film.rates actor) (slice_index film.holds actor)) out

  module _ (before between behind : List ℕ) where
    abbrev waits_early : ℕ → ℕ
    waits_early actor = waiting (works film actor) (slice_index film.holds actor) a before (between ++ behind)

    abbrev waits_late : ℕ → ℕ
    waits_late actor = waiting (works film actor) (slice_index film.holds actor) a (before ++ between) behind

    early_total : pay_of film (early before between behind a b) + slice_index film.days b * sum_below (length film.rates) waits_late
        ≤ pay_of film (split before between behind a b) + slice_index film.days b * sum_below (length film.rates) waits_early
    early_total = totals (length film.rates) (slice_index film.days b) (λ actor. paid (works film actor) (day_pay film actor) (early before between behind a b))
        (λ actor. paid (works film actor) (day_pay film actor) (split before between behind a b)) waits_late waits_early (λ actor lt.
        early_costs (works film actor) (day_pay film actor) before between behind a b (same_work actor)
        (slice_index film.days a) (slice_index film.days b) (slice_index film.holds actor) (held actor a) (held actor b))

    late_total : pay_of film (late before between behind a b) + slice_index film.days a * sum_below (length film.rates) waits_early
        ≤ pay_of film (split before between behind a b) + slice_index film.days a * sum_below (length film.rates) waits_late
    late_total = totals (length film.rates) (slice_index film.days a) (λ actor. paid (works film actor) (day_pay film actor) (late before between behind a b))
        (λ actor. paid (works film actor) (day_pay film actor) (split before between behind a b)) waits_early waits_late (λ actor lt.
        late_costs (works film actor) (day_pay film actor) before between behind a b (same_work actor)
        (slice_index film.days a) (slice_index film.days b) (slice_index film.holds actor) (held actor a) (held actor b))

    pub stand_together : (pay_of film (early before between behind a b) ≤ pay_of film (split before between behind a b))
        ⊎ (pay_of film (late before between behind a b) ≤ pay_of film (split before between behind a b))
    stand_together = elim (cases_lt (sum_below (length film.rates) waits_late) (sum_below (length film.rates) waits_early)) [
      | inl less ↦ inr (omega (arith, late_total, mul-le-mul_left (slice_index film.days a) (le_of_lt less)))
      | inr most ↦ inl (omega (arith, early_total, mul-le-mul_left (slice_index film.days b) most))
    ]

  pub swapped_together : (before behind : List ℕ) → pay_of film (before ++ (b ∷ a ∷ behind)) ≡ pay_of film (before ++ (a ∷ b ∷ behind))
  swapped_together before behind = sum_below-ext (length film.rates) (λ actor. paid (works film actor) (day_pay film actor) (before ++ (b ∷ a ∷ behind)))
      (λ actor. paid (works film actor) (day_pay film actor) (before ++ (a ∷ b ∷ behind))) (λ actor lt.
      swapped_pair (works film actor) (day_pay film actor) before [] behind a b (same_work actor))
