-- The four sets of two places.
use Rattle.std.proofs.Common.{◌≡◌, ℕ, ◌+◌, ◌*◌, ◌<◌, ◌≤◌, ◌⊎◌, true, max, List, [], ◌∷◌, slice_index, refl, sym, ap, ◌∙◌, subst, inl, inr, arith}
use Rattle.std.proofs.lemmas.Bool.{cases_lt, false≢true}
use Rattle.std.proofs.lemmas.Nat.{mul-le}
use Rattle.strip_mask.specs.Set.{full, has, meet, sum_over, without}
use Rattle.strip_mask.proofs.Totals.{sum_over-empty}
use Rattle.strip_mask.proofs.ByMembers.{empty_has}
use Rattle.strip_sets.proofs.FourSets.{both_without_first, both_without_second, by_four, full_two, has_these, lacks, sum_both, sum_first, sum_second, two, without_first, without_second}
use Rattle.strip_group.specs.Saved.{HasRoom, Saves, left_by}

-- ---- what is left

pub left_none : (stays : List ℕ) (scenes : ℕ) → left_by stays 2 0 scenes ≡ scenes
unfolding has
left_none stays scenes = refl

pub left_first : (stays : List ℕ) (scenes : ℕ) → left_by stays 2 1 scenes ≡ meet scenes (slice_index stays 0)
unfolding has
left_first stays scenes = refl

pub left_second : (stays : List ℕ) (scenes : ℕ) → left_by stays 2 2 scenes ≡ meet scenes (slice_index stays 1)
unfolding has
left_second stays scenes = refl

pub left_both : (stays : List ℕ) (scenes : ℕ) → left_by stays 2 3 scenes ≡ meet (meet scenes (slice_index stays 1)) (slice_index stays 0)
unfolding has
left_both stays scenes = refl

-- ---- savings

abbrev IsAttained : List ℕ → (ℕ → ℕ) → (ℕ → ℕ) → (ℕ → ℕ) → ℕ → Type 0
IsAttained rates days alone saved set = (saved set ≡ alone set) ⊎ ((place : ℕ) × (has set place ≡ true) × (saved set ≡ saved
    (without set place) + slice_index rates place * days set))

-- the greatest savings of the four sets
pub saves_four : (rates : List ℕ) (days alone saved : ℕ → ℕ) → saved 0 ≡ alone 0 → saved 1 ≡ max (alone 1) (saved 0 + slice_index rates 0 * days 1) → saved 2 ≡ max (alone 2)
    (saved 0 + slice_index rates 1 * days 2)
    → saved 3 ≡ max (max (alone 3) (saved 1 + slice_index rates 1 * days 3)) (saved 2 + slice_index rates 0 * days 3) → Saves 2 rates days alone saved
saves_four rates days alone saved none first second both = record {
  alone_least = by_four (λ set. alone set ≤ saved set) (omega (arith, none)) (omega (arith, first)) (omega (arith, second)) (omega (arith, both));
  after_least = λ set place small. by_four (λ s. has s place ≡ true → saved (without s place) + slice_index rates place * days s ≤ saved s)
      (λ there. absurd (empty_has place there))
      (λ there. elim (two 1 place there (omega arith)) [
        | inl is ↦ subst (λ (k : ℕ). saved (without 1 k) + slice_index rates k * days 1 ≤ saved 1) (sym is) (omega (arith, ap saved without_first, first))
        | inr is ↦ absurd (false≢true (sym lacks.0 ∙ ap (has 1) (sym is) ∙ there))
      ])
      (λ there. elim (two 2 place there (omega arith)) [
        | inl is ↦ absurd (false≢true (sym lacks.1 ∙ ap (has 2) (sym is) ∙ there))
        | inr is ↦ subst (λ (k : ℕ). saved (without 2 k) + slice_index rates k * days 2 ≤ saved 2) (sym is) (omega (arith, ap saved without_second, second))
      ])
      (λ there. elim (two 3 place there (omega arith)) [
        | inl is ↦ subst (λ (k : ℕ). saved (without 3 k) + slice_index rates k * days 3 ≤ saved 3) (sym is) (omega (arith, ap saved both_without_first, both))
        | inr is ↦ subst (λ (k : ℕ). saved (without 3 k) + slice_index rates k * days 3 ≤ saved 3) (sym is) (omega (arith, ap saved both_without_second, both))
      ])
      set small;
  attained = by_four (IsAttained rates days alone saved) (inl none)
      (elim (greater (alone 1) (saved 0 + slice_index rates 0 * days 1)) [
        | inl is ↦ inl (first ∙ is)
        | inr is ↦ inr (0, has_these.0, first ∙ is ∙ ap (λ (s : ℕ). saved s + slice_index rates 0 * days 1) (sym without_first))
      ])
      (elim (greater (alone 2) (saved 0 + slice_index rates 1 * days 2)) [
        | inl is ↦ inl (second ∙ is)
        | inr is ↦ inr (1, has_these.1, second ∙ is ∙ ap (λ (s : ℕ). saved s + slice_index rates 1 * days 2) (sym without_second))
      ])
      (elim (greater (max (alone 3) (saved 1 + slice_index rates 1 * days 3)) (saved 2 + slice_index rates 0 * days 3)) [
        | inl is ↦ elim (greater (alone 3) (saved 1 + slice_index rates 1 * days 3)) [
          | inl of ↦ inl (both ∙ is ∙ of)
          | inr of ↦ inr (1, has_these.3, both ∙ is ∙ of ∙ ap (λ (s : ℕ). saved s + slice_index rates 1 * days 3) (sym both_without_second))
        ]
        | inr is ↦ inr (0, has_these.2, both ∙ is ∙ ap (λ (s : ℕ). saved s + slice_index rates 0 * days 3) (sym both_without_first))
      ]);
}
  where
    greater : (a b : ℕ) → (max a b ≡ a) ⊎ (max a b ≡ b)
    greater a b = elim (cases_lt a b) [ inl less ↦ inr (omega (arith, less)) | inr more ↦ inl (omega (arith, more)) ]

-- ---- the three steps fit

module _ (rates : List ℕ) (days alone : ℕ → ℕ) (room : HasRoom 2 4294967295 rates days alone) where
  abbrev r0 : ℕ
  r0 = slice_index rates 0

  abbrev r1 : ℕ
  r1 = slice_index rates 1

  -- each of the four is within its rates on all days
  abbrev pub IsWithin : (ℕ → ℕ) → Type 0
  IsWithin v = (v 0 ≤ room.before) × (v 1 ≤ room.before + r0 * room.all_days) × (v 2 ≤ room.before + r1 * room.all_days) ×
      (v 3 ≤ room.before + r0 * room.all_days + r1 * room.all_days)

  at_none : sum_over rates 0 * room.all_days ≡ 0
  at_none = ap (λ (s : ℕ). s * room.all_days) (sum_over-empty rates) ∙ grind arith

  at_both : sum_over rates 3 * room.all_days ≡ r0 * room.all_days + r1 * room.all_days
  at_both = ap (λ (s : ℕ). s * room.all_days) (sum_both rates) ∙ grind arith

  most : room.before + r0 * room.all_days + r1 * room.all_days ≤ 4294967295
  most = (let all : sum_over rates (full 2) * room.all_days ≡ sum_over rates 3 * room.all_days = ap (λ (s : ℕ). sum_over rates s * room.all_days) full_two in
      omega (arith, room.fits, all, at_both))

  pub alone_within : IsWithin alone
  alone_within = (
    omega (arith, room.begun 0 (omega arith), at_none),
    omega (arith, room.begun 1 (omega arith), ap (λ (s : ℕ). s * room.all_days) (sum_first rates)),
    omega (arith, room.begun 2 (omega arith), ap (λ (s : ℕ). s * room.all_days) (sum_second rates)),
    omega (arith, room.begun 3 (omega arith), at_both),
  )

  pay : (rate set : ℕ) → set < 4 → rate * days set ≤ rate * room.all_days
  pay rate set lt = mul-le rate (days set) rate room.all_days (omega arith) (room.small set lt)

  nothing : (d : ℕ) → 0 * d ≡ 0
  nothing d = grind arith

  module _ (v : ℕ → ℕ) (within : IsWithin v) where
    -- the first place
    pub first_fits : (x0 x2 : ℕ) → x0 ≡ v 0 → x2 ≡ v 2 → (lane : ℕ) → lane < 4 → slice_index (x0 ∷ x0 ∷ x2 ∷ x2 ∷ []) lane + slice_index
        (0 ∷ r0 ∷ 0 ∷ r0 ∷ []) lane * days lane < 4294967296
    first_fits x0 x2 e0 e2 = by_four (λ lane. slice_index (x0 ∷ x0 ∷ x2 ∷ x2 ∷ []) lane + slice_index (0 ∷ r0 ∷ 0 ∷ r0 ∷ []) lane * days lane < 4294967296)
        (omega (arith, e0, within.0, nothing (days 0), most)) (omega (arith, e0, within.0, pay r0 1 (omega arith), most))
        (omega (arith, e2, within.2, nothing (days 2), most)) (omega (arith, e2, within.2, pay r0 3 (omega arith), most))

    pub second_fits : (x0 x1 : ℕ) → x0 ≡ v 0 → x1 ≡ v 1 → (lane : ℕ) → lane < 4 → slice_index (x0 ∷ x1 ∷ x0 ∷ x1 ∷ []) lane + slice_index
        (0 ∷ 0 ∷ r1 ∷ r1 ∷ []) lane * days lane < 4294967296
    second_fits x0 x1 e0 e1 = by_four (λ lane. slice_index (x0 ∷ x1 ∷ x0 ∷ x1 ∷ []) lane + slice_index (0 ∷ 0 ∷ r1 ∷ r1 ∷ []) lane * days lane < 4294967296)
        (omega (arith, e0, within.0, nothing (days 0), most)) (omega (arith, e1, within.1, nothing (days 1), most))
        (omega (arith, e0, within.0, pay r1 2 (omega arith), most)) (omega (arith, e1, within.1, pay r1 3 (omega arith), most))

    module _ (w : ℕ → ℕ) where
      abbrev pub IsFirst : Type 0
      IsFirst = (w 0 ≡ v 0) × (w 1 ≡ max (v 1) (v 0 + r0 * days 1)) × (w 2 ≡ v 2) × (w 3 ≡ max (v 3) (v 2 + r0 * days 3))

      abbrev pub IsSecond : Type 0
      IsSecond = (w 0 ≡ v 0) × (w 1 ≡ v 1) × (w 2 ≡ max (v 2) (v 0 + r1 * days 2)) × (w 3 ≡ max (v 3) (v 1 + r1 * days 3))

      pub first_is : (x0 x2 : ℕ) → x0 ≡ v 0 → x2 ≡ v 2
          → ((lane : ℕ) → lane < 4 → w lane ≡ max (v lane) (slice_index (x0 ∷ x0 ∷ x2 ∷ x2 ∷ []) lane + slice_index (0 ∷ r0 ∷ 0 ∷ r0 ∷ []) lane * days lane)) → IsFirst
      first_is x0 x2 e0 e2 each = (
        omega (arith, each 0 (omega arith), e0, nothing (days 0)),
        omega (arith, each 1 (omega arith), e0),
        omega (
          arith,
          each 2
              (omega arith),
          e2,
          nothing (days 2),
        ),
        omega (arith, each 3 (omega arith), e2),
      )

      pub second_is : (x0 x1 : ℕ) → x0 ≡ v 0 → x1 ≡ v 1
          → ((lane : ℕ) → lane < 4 → w lane ≡ max (v lane) (slice_index (x0 ∷ x1 ∷ x0 ∷ x1 ∷ []) lane + slice_index (0 ∷ 0 ∷ r1 ∷ r1 ∷ []) lane * days lane)) → IsSecond
      second_is x0 x1 e0 e1 each = (
        omega (arith, each 0 (omega arith), e0, nothing (days 0)),
        omega (arith, each 1 (omega arith), e1, nothing (days 1)),
        omega (
          arith,
          each 2
              (omega arith),
          e0,
        ),
        omega (arith, each 3 (omega arith), e1),
      )

      pub first_within : IsFirst → IsWithin w
      first_within is = (
        omega (arith, is.0, within.0),
        omega (arith, is.1, within.1, within.0, pay r0 1 (omega arith)),
        omega (arith, is.2, within.2),
        omega
            (arith, is.3, within.3, within.2, pay r0 3 (omega arith)),
      )

      pub second_within : IsSecond → IsWithin w
      second_within is = (
        omega (arith, is.0, within.0),
        omega (arith, is.1, within.1),
        omega (arith, is.2, within.2, within.0, pay r1 2 (omega arith)),
        omega
            (arith, is.3, within.3, within.1, pay r1 3 (omega arith)),
      )

  -- by three steps: for the first place, the second, and the first again
  pub three_steps : (one two saved : ℕ → ℕ) → IsFirst alone alone_within one → (within : IsWithin one) → IsSecond one within two → (also : IsWithin two)
      → IsFirst two also saved → Saves 2 rates days alone saved
  three_steps one two saved a wa b wb c = saves_four rates days alone saved (omega (arith, a.0, b.0, c.0)) (omega (arith, a.0, a.1, b.0, b.1, c.0, c.1)) (omega
      (arith, a.0, a.2, b.0, b.2, c.0, c.2))
      (omega (arith, a.0, a.1, a.2, a.3, b.0, b.1, b.2, b.3, c.0, c.1, c.2, c.3))
