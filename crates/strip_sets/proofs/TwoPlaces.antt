-- The four sets of two places, raised from one another.
use Rattle.std.proofs.Common.{◌≡◌, ℕ, ◌+◌, ◌*◌, ◌-◌, ◌%◌, ◌^◌, ◌<◌, ◌≤◌, ◌⊎◌, true, max, List, [], ◌∷◌, length, Fits, w32, slice_index, refl, sym, ap, ◌∙◌, subst, inl, inr, arith}
use Rattle.std.proofs.lemmas.Bool.{false≢true}
use Rattle.strip_mask.specs.Set.{full, has, sum_over, without}
use Rattle.strip_mask.proofs.Totals.{sum_over-empty}
use Rattle.strip_mask.proofs.ByMembers.{empty_has}
use Rattle.strip_sets.specs.Numbers.{AreLanes, CanStep, RaisedByFirst, RaisedBySecond, step_by, step_from, step_to, stepped}
use Rattle.strip_sets.specs.Saving.{Saves, SavingRoom, owes}
use Rattle.strip_sets.proofs.FourSets.{both_without_first, both_without_second, by_four, full_two, has_these, lacks, sum_both, sum_first, sum_second, two, without_first, without_second}
use Rattle.strip_sets.proofs.Saving.{room_agrees, saves_agree, greater, owed_most, step_most}
use Rattle.strip_sets.proofs.Vectors.{low_product, product_at, products_fit}
use lib.Lanes.{Each2, zip2}

-- ---- sums

module _ (numbers : List ℕ) where
  pub sum_full : sum_over numbers (full 2) ≡ slice_index numbers 0 + slice_index numbers 1
  sum_full = ap (sum_over numbers) full_two ∙ sum_both numbers

  -- the numbers of the places that a set has not
  pub other_sums_of_two : (first : ℕ) → (set : ℕ) → set < 4
      → slice_index ((first + slice_index numbers 1 + slice_index numbers 0) ∷ (first + slice_index numbers 1) ∷ (first + slice_index numbers 0) ∷ first ∷ []) set
      + sum_over numbers set ≡ first + sum_over numbers (full 2)
  other_sums_of_two first = by_four (λ set. slice_index ((first + slice_index numbers 1 + slice_index numbers 0) ∷ (first + slice_index numbers 1)
      ∷ (first + slice_index numbers 0) ∷ first ∷ []) set + sum_over numbers set ≡ first + sum_over numbers (full 2))
      (omega (arith, sum_over-empty numbers, sum_full)) (omega (arith, sum_first numbers, sum_full)) (omega (arith, sum_second numbers, sum_full))
      (omega (arith, sum_both numbers, sum_full))

-- ---- the four steps

-- each leads from the set without its place
to_set : (step : ℕ) → step < 4 → slice_index step_to step < 4
to_set = by_four (λ step. slice_index step_to step < 4) (omega arith) (omega arith) (omega arith) (omega arith)

to_has : (step : ℕ) → step < 4 → has (slice_index step_to step) (slice_index step_by step) ≡ true
to_has = by_four (λ step. has (slice_index step_to step) (slice_index step_by step) ≡ true) has_these.2 has_these.0 has_these.1 has_these.3

from_is : (step : ℕ) → step < 4 → without (slice_index step_to step) (slice_index step_by step) ≡ slice_index step_from step
from_is = by_four (λ step. without (slice_index step_to step) (slice_index step_by step) ≡ slice_index step_from step)
    both_without_first without_first without_second both_without_second

from_set : (step : ℕ) → step < 4 → slice_index step_from step < 4
from_set = by_four (λ step. slice_index step_from step < 4) (omega arith) (omega arith) (omega arith) (omega arith)

by_two : (holds : List ℕ) → (step : ℕ) → step < 4
    → slice_index (slice_index holds 0 ∷ slice_index holds 1 ∷ []) (slice_index step_by step) ≡ slice_index holds (slice_index step_by step)
by_two holds = by_four (λ step. slice_index (slice_index holds 0 ∷ slice_index holds 1 ∷ []) (slice_index step_by step) ≡ slice_index holds (slice_index step_by step)) refl refl refl refl

-- what the steps save, by the lowest bits of the rates and the days before each
module _ (low also first second : ℕ) (starts : List ℕ) (days : ℕ → ℕ) (is : low ≡ first % 4294967296) (is_also : also ≡ second % 4294967296)
    (long : length starts ≡ 4) (each : (step : ℕ) → step < 4 → slice_index starts step ≡ days (slice_index step_from step))
    (fits : (step : ℕ) → step < 4 → slice_index (first ∷ second ∷ []) (slice_index step_by step) * days (slice_index step_from step) < 2 ^ 32) where
  abbrev rates : List ℕ
  rates = low ∷ low ∷ also ∷ also ∷ []

  abbrev rate : ℕ → ℕ
  rate step = slice_index (first ∷ second ∷ []) (slice_index step_by step)

  rate_low : (step : ℕ) → step < 4 → slice_index rates step ≡ rate step % 4294967296
  rate_low = by_four (λ step. slice_index rates step ≡ rate step % 4294967296) is is is_also is_also

  product : (step : ℕ) → step < 4 → slice_index rates step * slice_index starts step ≡ rate step * days (slice_index step_from step)
  product step lt = ap (λ (r : ℕ). r * slice_index starts step) (rate_low step lt) ∙ ap (λ (d : ℕ). rate step % 4294967296 * d) (each step lt)
      ∙ low_product (rate step) (days (slice_index step_from step)) (fits step lt)

  pub rates_fit : Each2 (λ x y. Fits w32 (x * y)) rates starts
  rates_fit = products_fit rates starts refl long (λ step lt. omega (arith, product step lt, fits step lt))

  pub rates_at : (step : ℕ) → step < 4 → slice_index (zip2 (λ (x y : ℕ). x * y) rates starts) step ≡ rate step * days (slice_index step_from step)
  rates_at step lt = product_at rates starts refl long step lt ∙ product step lt

module _ {classes : ℕ} {holds : List ℕ} {days first : ℕ → ℕ} {extras owed : ℕ → ℕ → ℕ} (room : SavingRoom 2 classes 4294967295 holds days extras owed first) where
  -- numbers that leave room for a step
  pub record IsWithin (numbers : ℕ → ℕ) : Type 0 where
    pub low : (set : ℕ) → set < 4 → room.floor ≤ numbers set
    pub high : (set : ℕ) → set < 4 → numbers set ≤ room.base + sum_over holds set * days set

  pub begun_within : IsWithin first
  begun_within = record { low = room.low; high = room.begun }

  abbrev saves_at : ℕ → ℕ
  saves_at step = slice_index holds (slice_index step_by step) * days (slice_index step_from step)

  abbrev owes_at : ℕ → ℕ
  owes_at step = owes classes extras owed (slice_index step_to step) (slice_index step_from step)

  pub steps_rise : (class step : ℕ) → class < classes → step < 4 → owed class (slice_index step_from step) ≤ owed class (slice_index step_to step)
  steps_rise class step known lt = subst (λ (s : ℕ). owed class s ≤ owed class (slice_index step_to step)) (from_is step lt)
      (room.rise_owed class (slice_index step_to step) (slice_index step_by step) known (to_set step lt) (to_has step lt))

  -- a step from numbers within the room stays within
  module _ (numbers : ℕ → ℕ) (within : IsWithin numbers) where
    step_within : (step : ℕ) → step < 4 → numbers (slice_index step_from step) + saves_at step
        ≤ room.base + sum_over holds (slice_index step_to step) * days (slice_index step_to step)
    step_within step lt = subst (λ (s : ℕ). numbers s + slice_index holds (slice_index step_by step) * days s
        ≤ room.base + sum_over holds (slice_index step_to step) * days (slice_index step_to step)) (from_is step lt)
        (step_most (omega arith) room (slice_index step_to step) (slice_index step_by step) (numbers (without (slice_index step_to step) (slice_index step_by step)))
        (to_set step lt) (to_has step lt) (subst (λ (s : ℕ). numbers s ≤ room.base + sum_over holds s * days s) (sym (from_is step lt))
        (within.high (slice_index step_from step) (from_set step lt))))

    step_fits : (step : ℕ) → step < 4 → numbers (slice_index step_from step) + saves_at step < 4294967296
    step_fits step lt = omega (arith, step_within step lt, room.fits (slice_index step_to step) (to_set step lt))

    step_covered : (step : ℕ) → step < 4 → owes_at step ≤ numbers (slice_index step_from step)
    step_covered step lt = omega (
      arith,
      owed_most (omega arith) room (slice_index step_to step) (slice_index step_from step) (to_set step lt),
      within.low (slice_index step_from step) (from_set step lt),
    )

  -- of the two hold rates
  pub savings_fit : (step : ℕ) → step < 4
      → slice_index (slice_index holds 0 ∷ slice_index holds 1 ∷ []) (slice_index step_by step) * days (slice_index step_from step) < 4294967296
  savings_fit step lt = omega (
    arith,
    step_fits first begun_within step lt,
    ap (λ (h : ℕ). h * days (slice_index step_from step)) (by_two holds step lt),
  )

  pub savings_are : (saved : List ℕ) → ((step : ℕ) → step < 4 → slice_index saved step
      ≡ slice_index (slice_index holds 0 ∷ slice_index holds 1 ∷ []) (slice_index step_by step) * days (slice_index step_from step))
      → (step : ℕ) → step < 4 → slice_index saved step ≡ saves_at step
  savings_are saved save step lt = save step lt ∙ ap (λ (h : ℕ). h * days (slice_index step_from step)) (by_two holds step lt)

  pub debts_fit : (step : ℕ) → step < 4 → owes_at step < 4294967296
  debts_fit step lt = omega (arith, step_covered first begun_within step lt, step_fits first begun_within step lt)

  -- in lanes
  module _ (saved debts : List ℕ) (ls : AreLanes saved) (ld : AreLanes debts) (save : (step : ℕ) → step < 4 → slice_index saved step ≡ saves_at step)
      (owe : (step : ℕ) → step < 4 → slice_index debts step ≡ owes_at step) where
    pub can_step : (numbers : List ℕ) → AreLanes numbers → IsWithin (slice_index numbers) → CanStep numbers saved debts
    can_step numbers lanes within = record {
      lanes = (lanes, ls, ld);
      fits = λ step lt. omega (arith, step_fits (slice_index numbers) within step lt, save step lt);
      covered = λ step lt. omega (arith, step_covered (slice_index numbers) within step lt, owe step lt);
    }

    module _ (numbers : List ℕ) (within : IsWithin (slice_index numbers)) where
      lane_within : (step : ℕ) → step < 4 → stepped numbers saved debts step ≤ room.base + sum_over holds (slice_index step_to step) * days (slice_index step_to step)
      lane_within step lt = omega (arith, step_within (slice_index numbers) within step lt, save step lt)

      pub first_within : (result : List ℕ) → RaisedByFirst numbers saved debts result → IsWithin (slice_index result)
      first_within result raised = record {
        low = by_four (λ set. room.floor ≤ slice_index result set) (omega (arith, raised.none, within.low 0 (omega arith)))
            (omega (arith, raised.first, within.low 1 (omega arith))) (omega (arith, raised.second, within.low 2 (omega arith)))
            (omega (arith, raised.both, within.low 3 (omega arith)));
        high = by_four (λ set. slice_index result set ≤ room.base + sum_over holds set * days set) (omega (arith, raised.none, within.high 0 (omega arith)))
            (omega (arith, raised.first, within.high 1 (omega arith), lane_within 1 (omega arith))) (omega (arith, raised.second, within.high 2 (omega arith)))
            (omega (arith, raised.both, within.high 3 (omega arith), lane_within 0 (omega arith)));
      }

      pub second_within : (result : List ℕ) → RaisedBySecond numbers saved debts result → IsWithin (slice_index result)
      second_within result raised = record {
        low = by_four (λ set. room.floor ≤ slice_index result set) (omega (arith, raised.none, within.low 0 (omega arith)))
            (omega (arith, raised.first, within.low 1 (omega arith))) (omega (arith, raised.second, within.low 2 (omega arith)))
            (omega (arith, raised.both, within.low 3 (omega arith)));
        high = by_four (λ set. slice_index result set ≤ room.base + sum_over holds set * days set) (omega (arith, raised.none, within.high 0 (omega arith)))
            (omega (arith, raised.first, within.high 1 (omega arith))) (omega (arith, raised.second, within.high 2 (omega arith), lane_within 2 (omega arith)))
            (omega (arith, raised.both, within.high 3 (omega arith), lane_within 3 (omega arith)));
      }

-- ---- the most of each set

-- a step to a set from that without a place
module _ (hold days : ℕ → ℕ) (owed : ℕ → ℕ → ℕ) (first most : ℕ → ℕ) where
  abbrev Higher : ℕ → ℕ → ℕ → Type 0
  Higher set place before = most before + hold place * days before ≤ most set + owed set before

  abbrev Attained : ℕ → Type 0
  Attained set = (most set ≡ first set) ⊎ ((place : ℕ) × (has set place ≡ true)
      × (most set + owed set (without set place) ≡ most (without set place) + hold place * days (without set place)))

  move : (set place by before : ℕ) → by ≡ place → without set by ≡ before → Higher set by before → Higher set place (without set place)
  move set place by before same is le = subst (λ (k : ℕ). Higher set k (without set k)) same (subst (Higher set by) (sym is) le)

  by_place : (set place before : ℕ) → without set place ≡ before → has set place ≡ true → most set + owed set before ≡ most before + hold place * days before → Attained set
  by_place set place before is there equal = inr (place, there, subst (λ (s : ℕ). most set + owed set s ≡ most s + hold place * days s) (sym is) equal)

  -- what a step leads to
  abbrev reached : ℕ → ℕ → ℕ → ℕ
  reached set place before = most before + hold place * days before - owed set before

  saves_two : most 0 ≡ first 0 → most 1 ≡ max (first 1) (reached 1 0 0) → most 2 ≡ max (first 2) (reached 2 1 0)
      → most 3 ≡ max (max (first 3) (reached 3 1 1)) (reached 3 0 2)
      → owed 1 0 ≤ most 0 → owed 2 0 ≤ most 0 → owed 3 1 ≤ most 1 → owed 3 2 ≤ most 2 → Saves 2 hold days owed first most
  saves_two at_none at_first at_second at_both c10 c20 c31 c32 = record {
    kept = by_four (λ set. first set ≤ most set) (omega (arith, at_none)) (omega (arith, at_first)) (omega (arith, at_second)) (omega (arith, at_both));
    higher = λ set place lt. by_four (λ s. has s place ≡ true → Higher s place (without s place))
        (λ there. absurd (empty_has place there))
        (λ there. elim (two 1 place there (omega arith)) [
          | inl is ↦ move 1 place 0 0 (sym is) without_first (omega (arith, at_first))
          | inr is ↦ absurd (false≢true (sym lacks.0 ∙ ap (has 1) (sym is) ∙ there))
        ])
        (λ there. elim (two 2 place there (omega arith)) [
          | inl is ↦ absurd (false≢true (sym lacks.1 ∙ ap (has 2) (sym is) ∙ there))
          | inr is ↦ move 2 place 1 0 (sym is) without_second (omega (arith, at_second))
        ])
        (λ there. elim (two 3 place there (omega arith)) [
          | inl is ↦ move 3 place 0 2 (sym is) both_without_first (omega (arith, at_both))
          | inr is ↦ move 3 place 1 1 (sym is) both_without_second (omega (arith, at_both))
        ])
        set lt;
    attained = by_four Attained (inl at_none)
        (elim (greater (first 1) (reached 1 0 0)) [
          | inl is ↦ inl (at_first ∙ is)
          | inr is ↦ by_place 1 0 0 without_first has_these.0 (omega (arith, at_first, is, c10))
        ])
        (elim (greater (first 2) (reached 2 1 0)) [
          | inl is ↦ inl (at_second ∙ is)
          | inr is ↦ by_place 2 1 0 without_second has_these.1 (omega (arith, at_second, is, c20))
        ])
        (elim (greater (max (first 3) (reached 3 1 1)) (reached 3 0 2)) [
          | inl is ↦ elim (greater (first 3) (reached 3 1 1)) [
            | inl of ↦ inl (at_both ∙ is ∙ of)
            | inr of ↦ by_place 3 1 1 both_without_second has_these.3 (omega (arith, at_both, is, of, c31))
          ]
          | inr is ↦ by_place 3 0 2 both_without_first has_these.2 (omega (arith, at_both, is, c32))
        ]);
  }

-- by three turns: for the first place, the second, and the first again
module _ {classes : ℕ} {holds : List ℕ} {days : ℕ → ℕ} {extras owed : ℕ → ℕ → ℕ} (numbers one after result saved debts : List ℕ)
    (room : SavingRoom 2 classes 4294967295 holds days extras owed (slice_index numbers))
    (save : (step : ℕ) → step < 4 → slice_index saved step ≡ slice_index holds (slice_index step_by step) * days (slice_index step_from step))
    (owe : (step : ℕ) → step < 4 → slice_index debts step ≡ owes classes extras owed (slice_index step_to step) (slice_index step_from step))
    (a : RaisedByFirst numbers saved debts one) (b : RaisedBySecond one saved debts after) (c : RaisedByFirst after saved debts result)
    (within : IsWithin room (slice_index result)) where
  s0 : slice_index saved 0 ≡ slice_index holds 0 * days 2
  s0 = save 0 (omega arith)

  s1 : slice_index saved 1 ≡ slice_index holds 0 * days 0
  s1 = save 1 (omega arith)

  s2 : slice_index saved 2 ≡ slice_index holds 1 * days 0
  s2 = save 2 (omega arith)

  s3 : slice_index saved 3 ≡ slice_index holds 1 * days 1
  s3 = save 3 (omega arith)

  at_none : slice_index result 0 ≡ slice_index numbers 0
  at_none = c.none ∙ b.none ∙ a.none

  again : slice_index result 1 ≡ slice_index one 1
  again = omega (arith, c.first, b.first, b.none, a.first, a.none)

  at_first : slice_index result 1 ≡ max (slice_index numbers 1) (slice_index result 0 + slice_index saved 1 - slice_index debts 1)
  at_first = omega (arith, again, a.first, at_none)

  at_second : slice_index result 2 ≡ max (slice_index numbers 2) (slice_index result 0 + slice_index saved 2 - slice_index debts 2)
  at_second = omega (arith, c.second, b.second, a.second, a.none, at_none)

  at_both : slice_index result 3 ≡ max (max (slice_index numbers 3) (slice_index result 1 + slice_index saved 3 - slice_index debts 3))
      (slice_index result 2 + slice_index saved 0 - slice_index debts 0)
  at_both = (let more : slice_index numbers 2 ≤ slice_index result 2 = omega (arith, at_second) in omega (arith, c.both, b.both, a.both, c.second, more, again))

  pub three_turns : Saves 2 (slice_index holds) days (owes classes extras owed) (slice_index numbers) (slice_index result)
  three_turns = saves_two (slice_index holds) days (owes classes extras owed) (slice_index numbers) (slice_index result) at_none
      (omega (arith, at_first, s1, owe 1 (omega arith))) (omega (arith, at_second, s2, owe 2 (omega arith)))
      (omega (arith, at_both, s3, owe 3 (omega arith), s0, owe 0 (omega arith)))
      (step_covered room (slice_index result) within 1 (omega arith)) (step_covered room (slice_index result) within 2 (omega arith))
      (step_covered room (slice_index result) within 3 (omega arith)) (step_covered room (slice_index result) within 0 (omega arith))

-- ---- numbers that agree

module _ (places classes : ℕ) (holds : List ℕ) (days : ℕ → ℕ) (extras owed also_extras also_owed : ℕ → ℕ → ℕ) (e : (class set : ℕ) → also_extras class set ≡ extras class set)
    (o : (class set : ℕ) → also_owed class set ≡ owed class set) where
  pub saves_same : (first most : ℕ → ℕ) → Saves places (slice_index holds) days (owes classes also_extras also_owed) first most
      → Saves places (slice_index holds) days (owes classes extras owed) first most
  saves_same first most = saves_agree places classes holds days first days first also_extras also_owed extras owed (λ set lt. refl) (λ set lt. refl)
      (λ class set lt. sym (e class set)) (λ class set lt. sym (o class set)) most most (λ set lt. refl)

  pub room_same : (limit : ℕ) (first : ℕ → ℕ) → SavingRoom places classes limit holds days extras owed first
      → SavingRoom places classes limit holds days also_extras also_owed first
  room_same limit first = room_agrees places classes holds days first days first extras owed also_extras also_owed (λ set lt. refl) (λ set lt. refl)
      (λ class set lt. e class set) (λ class set lt. o class set) limit
