-- A number for each set of a few places, in lanes and by halves.
use Rattle.std.specs.Prelude.{◌≡◌, ℕ, zero, suc, ◌+◌, ◌^◌, ◌<◌, ◌-◌, ◌≤◌, ◌/◌, ◌%◌, Bool, cond, max, List, [], ◌∷◌, length, map, slice_index}
use Rattle.strip_mask.specs.Set.{has, with, without}
use Rattle.strip_sets.specs.declared.terms.Classes.{Classes}

-- a vector of four numbers
abbrev pub AreLanes : List ℕ → Type 0
AreLanes numbers = length numbers ≡ 4

-- the numbers of the sets without a place and of those with it, as those of all sets
abbrev pub halves : ℕ → (ℕ → ℕ) → (ℕ → ℕ) → ℕ → ℕ
halves place without_it with_it set = cond {A = ℕ} (has set place) (with_it (without set place)) (without_it set)

-- the number of a set of the first places, within a block of a list
abbrev pub in_block : {B : Type 0} → (B → ℕ → ℕ) → List B → ℕ → ℕ → ℕ
in_block value blocks block set = slice_index (map (λ one. value one set) blocks) block

-- the number of a set of any places: its higher places tell the block, the first ones the set within it
abbrev pub number : {B : Type 0} → (B → ℕ → ℕ) → ℕ → List B → ℕ → ℕ
number value places blocks set = in_block value blocks (set / 2 ^ places) (set % 2 ^ places)

-- the sum of the numbers of the subsets, those of the first places alone and those with each place more
abbrev pub sum_within : ℕ → (ℕ → ℕ) → ℕ → ℕ
sum_within zero number set = number 0
sum_within (suc place) number set = sum_within place number set
    + cond {A = ℕ} (has set place) (sum_within place (λ part. number (with part place)) set) 0

-- a number that counts, or 0
abbrev pub counted : Bool → ℕ → ℕ
counted counts number = cond {A = ℕ} counts number 0

-- a number for each class
abbrev pub by_class : {R : Type 0} → (R → ℕ → ℕ) → Classes R → ℕ → ℕ → ℕ
by_class value classes class set = slice_index (value classes.first set ∷ value classes.second set ∷ []) class

abbrev pub HasLanes : Classes (List ℕ) → Type 0
HasLanes classes = AreLanes classes.first × AreLanes classes.second

-- the four steps by which the sets of two places are come to, each at a lane: where it leads to, where it comes from,
-- and its place
abbrev pub step_to : List ℕ
step_to = 3 ∷ 1 ∷ 2 ∷ 3 ∷ []

abbrev pub step_from : List ℕ
step_from = 2 ∷ 0 ∷ 0 ∷ 1 ∷ []

abbrev pub step_by : List ℕ
step_by = 0 ∷ 0 ∷ 1 ∷ 1 ∷ []

-- each step has room for what it saves, and the set that it comes from has what it owes
pub record CanStep (numbers saved owed : List ℕ) : Type 0 where
  pub lanes : AreLanes numbers × AreLanes saved × AreLanes owed
  pub fits : (step : ℕ) → step < 4 → slice_index numbers (slice_index step_from step) + slice_index saved step < 2 ^ 32
  pub covered : (step : ℕ) → step < 4 → slice_index owed step ≤ slice_index numbers (slice_index step_from step)

-- what a step leads to: the number of the set that it comes from, with what it saves, less what it owes
abbrev pub stepped : List ℕ → List ℕ → List ℕ → ℕ → ℕ
stepped numbers saved owed step = slice_index numbers (slice_index step_from step) + slice_index saved step
    - slice_index owed step

-- the sets with the first place are raised by the steps of it
pub record RaisedByFirst (numbers saved owed result : List ℕ) : Type 0 where
  pub lanes : AreLanes result
  pub none : slice_index result 0 ≡ slice_index numbers 0
  pub first : slice_index result 1 ≡ max (slice_index numbers 1) (stepped numbers saved owed 1)
  pub second : slice_index result 2 ≡ slice_index numbers 2
  pub both : slice_index result 3 ≡ max (slice_index numbers 3) (stepped numbers saved owed 0)

-- and those with the second by its steps
pub record RaisedBySecond (numbers saved owed result : List ℕ) : Type 0 where
  pub lanes : AreLanes result
  pub none : slice_index result 0 ≡ slice_index numbers 0
  pub first : slice_index result 1 ≡ slice_index numbers 1
  pub second : slice_index result 2 ≡ max (slice_index numbers 2) (stepped numbers saved owed 2)
  pub both : slice_index result 3 ≡ max (slice_index numbers 3) (stepped numbers saved owed 3)
