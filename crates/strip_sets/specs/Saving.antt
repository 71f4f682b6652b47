-- The most that is saved on a way to each set of places, one place after the other.
use Rattle.std.specs.Prelude.{◌≡◌, ℕ, ◌+◌, ◌*◌, ◌-◌, ◌^◌, ◌<◌, ◌≤◌, ◌⊎◌, true, List}
use Rattle.strip_mask.specs.Set.{has, sum_over, without}
use Rattle.strip_mask.specs.Sums.{sum_below}

-- what a step to a set owes: each class its extra at the set for each day that it has there and had not before
abbrev pub owes : ℕ → (ℕ → ℕ → ℕ) → (ℕ → ℕ → ℕ) → ℕ → ℕ → ℕ
owes classes extras days set before = sum_below classes
    (λ class. extras class set * (days class set - days class before))

-- the same, if the days before the step stand beside those of the set
abbrev pub owes_from : ℕ → (ℕ → ℕ → ℕ) → (ℕ → ℕ → ℕ) → (ℕ → ℕ → ℕ) → ℕ → ℕ
owes_from classes extras days before set = sum_below classes
    (λ class. extras class set * (days class set - before class set))

-- the most saved: of each set its first number, or that of the set without one of its places, with the hold rate of that
-- place on all days before, less what the step owes
pub record Saves (places : ℕ) (hold days : ℕ → ℕ) (owed : ℕ → ℕ → ℕ) (first most : ℕ → ℕ) : Type 0 where
  pub kept : (set : ℕ) → set < 2 ^ places → first set ≤ most set
  pub higher : (set place : ℕ) → set < 2 ^ places → has set place ≡ true
      → most (without set place) + hold place * days (without set place) ≤ most set + owed set (without set place)
  pub attained : (set : ℕ) → set < 2 ^ places → (most set ≡ first set) ⊎ ((place : ℕ) × (has set place ≡ true)
      × (most set + owed set (without set place) ≡ most (without set place) + hold place * days (without set place)))

-- days that rise with the set; first numbers that are no greater than `base` and what all days save, and no less than
-- what all days owe
pub record SavingRoom (places classes limit : ℕ) (holds : List ℕ) (days : ℕ → ℕ) (extras owed : ℕ → ℕ → ℕ)
    (first : ℕ → ℕ) : Type 0 where
  pub rise : (set place : ℕ) → set < 2 ^ places → has set place ≡ true → days (without set place) ≤ days set
  pub rise_owed : (class set place : ℕ) → class < classes → set < 2 ^ places → has set place ≡ true
      → owed class (without set place) ≤ owed class set
  pub base : ℕ
  pub begun : (set : ℕ) → set < 2 ^ places → first set ≤ base + sum_over holds set * days set
  pub fits : (set : ℕ) → set < 2 ^ places → base + sum_over holds set * days set ≤ limit
  pub floor : ℕ
  pub covered : (set : ℕ) → set < 2 ^ places → sum_below classes (λ class. extras class set * owed class set) ≤ floor
  pub low : (set : ℕ) → set < 2 ^ places → floor ≤ first set
