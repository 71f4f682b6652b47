-- Passes and sums over a table by those of its halves.
use Rattle.std.proofs.Common.{◌≡◌, ℕ, suc, ◌+◌, ◌*◌, ◌-◌, ◌^◌, ◌<◌, ◌≤◌, List, max, slice_index, refl, sym, ap, ◌∙◌, subst, arith}
use Rattle.strip_mask.specs.Set.{full, sum_over}
use Rattle.strip_sets.specs.Numbers.{halves, sum_within}
use Rattle.strip_sets.proofs.Parts.{below_halves, other_sums_halves, parts_fit, total_parts, within_agree}
use Rattle.strip_sets.proofs.Sets.{sum_full_more}
use Rattle.strip_sets.specs.Saving.{Saves, SavingRoom, owes, owes_from}
use Rattle.strip_sets.proofs.Saving.{AreParts, IsSplit, across_covered, across_fits, rise_across, room_agrees, room_in, room_out, saves_agree, saves_halves, split_agrees}

-- ---- passes

module _ (n places classes limit : ℕ) (is : places ≡ suc n) (few : places ≤ 64) (holds : List ℕ) (hold : ℕ) (rate : hold ≡ slice_index holds n)
    {days days_out days_in first first_out first_in : ℕ → ℕ} {extras owed extras_out owed_out extras_in owed_in : ℕ → ℕ → ℕ}
    (d : IsSplit n days days_out days_in) (f : IsSplit n first first_out first_in) (e : AreParts n extras extras_out extras_in) (o : AreParts n owed owed_out owed_in)
    (room : SavingRoom places classes limit holds days extras owed first) where
  fits_64 : suc n ≤ 64
  fits_64 = omega (arith, is, few)

  halved : SavingRoom (suc n) classes limit holds (halves n days_out days_in) extras owed (halves n first_out first_in)
  halved = room_agrees (suc n) classes holds days first (halves n days_out days_in) (halves n first_out first_in) extras owed extras owed
      (split_agrees n days days_out days_in d) (split_agrees n first first_out first_in f) (λ class set lt. refl) (λ class set lt. refl) limit
      (subst (λ (k : ℕ). SavingRoom k classes limit holds days extras owed first) is room)

  pub room_low : SavingRoom n classes limit holds days_out extras_out owed_out first_out
  room_low = room_out n classes e o fits_64 limit holds days_out days_in first_out first_in halved

  pub rise_between : (class set : ℕ) → class < classes → set < 2 ^ n → owed_out class set ≤ owed_in class set
  rise_between = rise_across n classes e o fits_64 limit holds days_out days_in first_out first_in halved

  module _ (most_out : ℕ → ℕ) (low : Saves n (slice_index holds) days_out (owes classes extras_out owed_out) first_out most_out) where
    pub fits_between : (set : ℕ) → set < 2 ^ n → most_out set + hold * days_out set ≤ limit
    fits_between set lt = subst (λ (h : ℕ). most_out set + h * days_out set ≤ limit) (sym rate)
        (across_fits n classes e o fits_64 limit holds days_out days_in first_out first_in halved most_out low set lt)

    pub covered_between : (set : ℕ) → set < 2 ^ n → owes_from classes extras_in owed_in owed_out set ≤ most_out set
    covered_between = across_covered n classes e o fits_64 limit holds days_out days_in first_out first_in halved most_out low

    module _ (mid : ℕ → ℕ)
        (between : (set : ℕ) → set < 2 ^ n → mid set ≡ max (first_in set) (most_out set + hold * days_out set - owes_from classes extras_in owed_in owed_out set)) where
      step : (set : ℕ) → set < 2 ^ n → mid set ≡ max (first_in set) (most_out set + slice_index holds n * days_out set - owes_from classes extras_in owed_in owed_out set)
      step set lt = between set lt ∙ ap (λ (h : ℕ). max (first_in set) (most_out set + h * days_out set - owes_from classes extras_in owed_in owed_out set)) rate

      pub room_high : SavingRoom n classes limit holds days_in extras_in owed_in mid
      room_high = room_in n classes e o fits_64 limit holds days_out days_in first_out first_in halved most_out low mid step

      pub saves_both : {most : ℕ → ℕ} (most_in : ℕ → ℕ) → IsSplit n most most_out most_in → Saves n (slice_index holds) days_in (owes classes extras_in owed_in) mid most_in
          → Saves places (slice_index holds) days (owes classes extras owed) first most
      saves_both {most} most_in m high = subst (λ (k : ℕ). Saves k (slice_index holds) days (owes classes extras owed) first most) (sym is)
          (saves_agree (suc n) classes holds (halves n days_out days_in) (halves n first_out first_in) days first extras owed extras owed
          (λ set lt. sym (split_agrees n days days_out days_in d set lt)) (λ set lt. sym (split_agrees n first first_out first_in f set lt)) (λ class set lt. refl)
          (λ class set lt. refl) (halves n most_out most_in) most (λ set lt. sym (split_agrees n most most_out most_in m set lt))
          (saves_halves n classes e o holds days_out days_in first_out first_in most_out mid most_in low covered_between step high))

-- ---- sums over the places that a set has not

module _ (n places : ℕ) (is : places ≡ suc n) (few : places ≤ 10) (numbers : List ℕ) (first hold : ℕ) (rate : hold ≡ slice_index numbers n) where
  few_64 : n < 64
  few_64 = omega (arith, is, few)

  whole : sum_over numbers (full places) ≡ sum_over numbers (full n) + hold
  whole = ap (λ (k : ℕ). sum_over numbers (full k)) is ∙ sum_full_more numbers n few_64 ∙ ap (λ (x : ℕ). sum_over numbers (full n) + x) (sym rate)

  pub high_fits : (most : ℕ) → first + sum_over numbers (full places) ≤ most → first + sum_over numbers (full n) ≤ most
  high_fits most fits = omega (arith, fits, whole)

  pub more_fits : (most value set : ℕ) → first + sum_over numbers (full places) ≤ most → value + sum_over numbers set ≡ first + sum_over numbers (full n) → value + hold ≤ most
  more_fits most value set fits sum = omega (arith, fits, sum, whole)

  pub other_sums_both : {all low high : ℕ → ℕ} → IsSplit n all low high → ((set : ℕ) → set < 2 ^ n → low set ≡ high set + hold)
      → ((set : ℕ) → set < 2 ^ n → high set + sum_over numbers set ≡ first + sum_over numbers (full n)) → (set : ℕ) → set < 2 ^ places
      → all set + sum_over numbers set ≡ first + sum_over numbers (full places)
  other_sums_both {all} {low} {high} split more sums = subst (λ (k : ℕ). (set : ℕ) → set < 2 ^ k → all set + sum_over numbers set ≡ first + sum_over numbers (full k)) (sym is)
      (λ set lt. ap (λ (x : ℕ). x + sum_over numbers set) (sym (split_agrees n all low high split set lt))
      ∙ other_sums_halves numbers n few_64 first (first + hold) low high (ap (λ (x : ℕ). first + x) rate) (λ s small. omega (arith, more s small, sums s small)) sums set lt)

-- ---- sums over subsets

module _ (n places most : ℕ) (is : places ≡ suc n) {all low high : ℕ → ℕ} (split : IsSplit n all low high) (fits : sum_within places all (full places) ≤ most) where
  both_fit : sum_within (suc n) (halves n low high) (full (suc n)) ≤ most
  both_fit =
      let whole : sum_within (suc n) all (full (suc n)) ≤ most = subst (λ (k : ℕ). sum_within k all (full k) ≤ most) is fits in
      let same = within_agree (suc n) (halves n low high) all (full (suc n)) (split_agrees n all low high split) in
      omega (arith, whole, same)

  pub low_fits : sum_within n low (full n) ≤ most
  low_fits = omega (arith, both_fit, total_parts n low high)

  pub high_fits_below : sum_within n high (full n) ≤ most
  high_fits_below = omega (arith, both_fit, total_parts n low high)

  module _ (low_new high_mid : ℕ → ℕ) (lows : (set : ℕ) → set < 2 ^ n → low_new set ≡ sum_within n low set)
      (highs : (set : ℕ) → set < 2 ^ n → high_mid set ≡ sum_within n high set) where
    pub plus_fits : (set : ℕ) → set < 2 ^ n → high_mid set + low_new set ≤ most
    plus_fits = parts_fit n low high low_new high_mid lows highs most both_fit

    pub below_both : {new : ℕ → ℕ} (high_new : ℕ → ℕ) → IsSplit n new low_new high_new → ((set : ℕ) → set < 2 ^ n → high_new set ≡ high_mid set + low_new set)
        → (set : ℕ) → set < 2 ^ places → new set ≡ sum_within places all set
    below_both {new} high_new split_new sum = subst (λ (k : ℕ). (set : ℕ) → set < 2 ^ k → new set ≡ sum_within k all set) (sym is)
        (λ set lt. sym (split_agrees n new low_new high_new split_new set lt) ∙ below_halves n low high low_new high_mid lows highs high_new sum set lt
        ∙ within_agree (suc n) (halves n low high) all set (split_agrees n all low high split))
