-- What a few classes owe for their days.
use Rattle.std.proofs.Common.{◌≡◌, ℕ, zero, suc, ◌+◌, ◌*◌, ◌-◌, ◌<◌, ◌≤◌, ap, ◌∙◌, arith, IsTrue, nat_lt}
use Rattle.std.proofs.lemmas.Bool.{ltb-true}
use Rattle.std.proofs.lemmas.Nat.{mul-le}
use Rattle.strip_mask.specs.Sums.{sum_below}
use Rattle.strip_mask.proofs.Sums.{sum_below-ext, sum_below-suc, sum_below-zero, sum_below_mono}
use Rattle.strip_sets.specs.Numbers.{counted}
use Rattle.strip_sets.specs.Saving.{owes_from}

module _ (n : ℕ) (extras days before : ℕ → ℕ → ℕ) where
  -- of numbers that agree
  pub owes_same : (also_extras also_days also_before : ℕ → ℕ → ℕ) (set other : ℕ) → ((class : ℕ) → also_extras class other ≡ extras class set)
      → ((class : ℕ) → also_days class other ≡ days class set) → ((class : ℕ) → also_before class other ≡ before class set)
      → owes_from n also_extras also_days also_before other ≡ owes_from n extras days before set
  owes_same also_extras also_days also_before set other e d b = sum_below-ext n (λ class. also_extras class other * (also_days class other - also_before class other))
      (λ class. extras class set * (days class set - before class set)) (λ class lt. each (also_extras class other) (extras class set) (also_days class other)
      (days class set) (also_before class other) (before class set) (e class) (d class) (b class))
    where
      each : (w u d e b a : ℕ) → w ≡ u → d ≡ e → b ≡ a → w * (d - b) ≡ u * (e - a)
      each w u d e b a ws ds bs = ap (λ x. x * (d - b)) ws ∙ ap (λ x. u * (x - b)) ds ∙ ap (λ x. u * (e - x)) bs

  -- no more than for all days
  pub owes_most : (set : ℕ) → owes_from n extras days before set ≤ sum_below n (λ class. extras class set * days class set)
  owes_most set = sum_below_mono n (λ class. extras class set * (days class set - before class set)) (λ class. extras class set * days class set)
      (λ class lt. mul-le (extras class set) (days class set - before class set) (extras class set) (days class set) (omega arith) (omega arith))

-- for all days
pub totals_same : (n : ℕ) (extras days also_extras also_days : ℕ → ℕ → ℕ) (set other : ℕ) → ((class : ℕ) → also_extras class other ≡ extras class set)
    → ((class : ℕ) → also_days class other ≡ days class set)
    → sum_below n (λ class. also_extras class other * also_days class other) ≡ sum_below n (λ class. extras class set * days class set)
totals_same n extras days also_extras also_days set other e d = sum_below-ext n (λ class. also_extras class other * also_days class other)
    (λ class. extras class set * days class set) (λ class lt. ap (λ x. x * also_days class other) (e class) ∙ ap (λ x. extras class set * x) (d class))

-- ---- two classes at most

pub counts : (k n : ℕ) → IsTrue (nat_lt k n) → k < n
counts k n there = ltb-true k n there

-- the sum by whether each class counts
counted_two : (n : ℕ) → n ≤ 2 → (f : ℕ → ℕ) → counted (nat_lt 0 n) (f 0) + counted (nat_lt 1 n) (f 1) ≡ sum_below n f
counted_two zero few f = omega (arith, sum_below-zero f)
counted_two (suc zero) few f = omega (arith, sum_below-zero f, sum_below-suc 0 f)
counted_two (suc (suc zero)) few f = omega (arith, sum_below-zero f, sum_below-suc 0 f, sum_below-suc 1 f)
counted_two (suc (suc (suc n))) few f = absurd (omega (arith, few))

-- the same of the count asked for twice
pub by_count : (n : ℕ) → n ≤ 2 → (f : ℕ → ℕ) (a b : ℕ) → a ≡ n → b ≡ n → counted (nat_lt 0 a) (f 0) + counted (nat_lt 1 b) (f 1) ≡ sum_below n f
by_count n few f a b first second = omega (
  arith,
  counted_two n few f,
  ap (λ k. counted (nat_lt 0 k) (f 0)) first,
  ap (λ k. counted (nat_lt 1 k) (f 1)) second,
)

-- the first class is within the sum
pub first_count : (n : ℕ) → n ≤ 2 → (f : ℕ → ℕ) (a : ℕ) → a ≡ n → counted (nat_lt 0 a) (f 0) ≤ sum_below n f
first_count n few f a is = omega (arith, counted_two n few f, ap (λ k. counted (nat_lt 0 k) (f 0)) is)
