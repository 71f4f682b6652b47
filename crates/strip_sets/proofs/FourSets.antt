-- The four sets of two places.
use Rattle.std.proofs.Common.{◌≡◌, ℕ, suc, zero, ◌+◌, ◌<◌, ◌⊎◌, true, false, List, slice_index, refl, sym, ap, ◌∙◌, inl, inr, arith}
use Rattle.std.proofs.lemmas.Bool.{cases_lt}
use Rattle.strip_mask.specs.Set.{full, has, minus, sum_over, union, with, without}
use Rattle.strip_mask.proofs.Totals.{sum_over-empty, sum_over-with}
use Rattle.strip_mask.proofs.ByMembers.{below_width, has-empty}

pub by_four : (P : ℕ → Type 0) → P 0 → P 1 → P 2 → P 3 → (set : ℕ) → set < 4 → P set
by_four P none first second both zero lt = none
by_four P none first second both (suc zero) lt = first
by_four P none first second both (suc (suc zero)) lt = second
by_four P none first second both (suc (suc (suc zero))) lt = both
by_four P none first second both (suc (suc (suc (suc n)))) lt = absurd (omega (arith, lt))

pub full_two : full 2 ≡ 3
unfolding full with union
full_two = refl

pub with_first : with 0 0 ≡ 1
unfolding with union
with_first = refl

pub with_second : with 0 1 ≡ 2
unfolding with union
with_second = refl

pub with_both : with 1 1 ≡ 3
unfolding with union
with_both = refl

pub without_first : without 1 0 ≡ 0
unfolding without minus
without_first = refl

pub without_second : without 2 1 ≡ 0
unfolding without minus
without_second = refl

pub both_without_first : without 3 0 ≡ 2
unfolding without minus
both_without_first = refl

pub both_without_second : without 3 1 ≡ 1
unfolding without minus
both_without_second = refl

pub lacks : (has 1 1 ≡ false) × (has 2 0 ≡ false)
unfolding has
lacks = (refl, refl)

pub has_these : (has 1 0 ≡ true) × (has 2 1 ≡ true) × (has 3 0 ≡ true) × (has 3 1 ≡ true)
unfolding has
has_these = (refl, refl, refl, refl)

pub two : (set place : ℕ) → has set place ≡ true → set < 4 → (place ≡ 0) ⊎ (place ≡ 1)
two set place there small = (let below : place < 2 = below_width set 2 place small there in elim (cases_lt place 1) [
  | inl zero_is ↦ inl (omega (arith, zero_is))
  | inr one ↦ inr (omega (arith, one, below))
])

-- ---- sums

module _ (numbers : List ℕ) where
  pub sum_first : sum_over numbers 1 ≡ slice_index numbers 0
  sum_first = ap (sum_over numbers) (sym with_first) ∙ sum_over-with numbers 0 0 (omega arith) (has-empty 0) ∙ (let none = sum_over-empty numbers in omega (arith, none))

  pub sum_second : sum_over numbers 2 ≡ slice_index numbers 1
  sum_second = ap (sum_over numbers) (sym with_second) ∙ sum_over-with numbers 0 1 (omega arith) (has-empty 1) ∙ (let none = sum_over-empty numbers in omega (arith, none))

  pub sum_both : sum_over numbers 3 ≡ slice_index numbers 0 + slice_index numbers 1
  sum_both = ap (sum_over numbers) (sym with_both) ∙ sum_over-with numbers 1 1 (omega arith) lacks.0 ∙ (let first = sum_first in omega (arith, first))
