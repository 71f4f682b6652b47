-- What the laws of the crate state.
use Rattle.std.specs.Prelude.{◌≡◌, ℕ, ◌+◌, ◌^◌, ◌<◌, ◌==◌}
use Rattle.strip_mask.specs.Set.{minus}
use Rattle.strip_sets.specs.Numbers.{counted, sum_within}
use Rattle.strip_sets.specs.Saving.{Saves}

-- the most saved is determined by the hold rates, the days, what steps owe and the first numbers
abbrev pub OneMost : Type 0
OneMost = (places : ℕ) (hold days : ℕ → ℕ) (owed : ℕ → ℕ → ℕ) (first most other : ℕ → ℕ)
    → Saves places hold days owed first most → Saves places hold days owed first other
    → (set : ℕ) → set < 2 ^ places → most set ≡ other set

-- that much more at one set is that much more in the sum of each set that it is a part of
abbrev pub MoreInEachAbove : Type 0
MoreInEachAbove = (places : ℕ) (numbers : ℕ → ℕ) (part more set : ℕ) → part < 2 ^ places
    → sum_within places (λ other. numbers other + counted (other == part) more) set ≡ sum_within places numbers set
    + counted (minus part set == 0) more
