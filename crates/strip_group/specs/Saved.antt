-- What the actors of a group save of their pay for waiting, by sets of their places: alone each would wait on all
-- days without him, and who leaves after others needn't wait on the days without all of them and him.
use Rattle.std.specs.Prelude.{◌≡◌, ℕ, zero, suc, ◌+◌, ◌*◌, ◌^◌, ◌<◌, ◌≤◌, ◌⊎◌, true, cond, List, slice_index}
use Rattle.strip_mask.specs.Set.{full, has, meet, sum_over, without}

-- the scenes that stay at each of the first places that a set has
abbrev pub left_by : List ℕ → ℕ → ℕ → ℕ → ℕ
left_by stays zero set scenes = scenes
left_by stays (suc n) set scenes = left_by stays n set (cond (has set n) (meet scenes (slice_index stays n)) scenes)

-- what each set of the first places saves at most: what it saves alone, or what the others save before a place of
-- it whose rate is then saved on the days of the set
pub record Saves (places : ℕ) (rates : List ℕ) (days alone saved : ℕ → ℕ) : Type 0 where
  pub alone_least : (set : ℕ) → set < 2 ^ places → alone set ≤ saved set
  pub after_least : (set place : ℕ) → set < 2 ^ places → has set place ≡ true
      → saved (without set place) + slice_index rates place * days set ≤ saved set
  pub attained : (set : ℕ) → set < 2 ^ places → (saved set ≡ alone set)
      ⊎ ((place : ℕ) × (has set place ≡ true) × (saved set ≡ saved (without set place)
      + slice_index rates place * days set))

-- no set saves more than a number at these rates
pub record HasRoom (places most : ℕ) (rates : List ℕ) (days alone : ℕ → ℕ) : Type 0 where
  pub all_days : ℕ
  pub before : ℕ
  pub small : (set : ℕ) → set < 2 ^ places → days set ≤ all_days
  pub begun : (set : ℕ) → set < 2 ^ places → alone set ≤ before + sum_over rates set * all_days
  pub fits : before + sum_over rates (full places) * all_days ≤ most
  pub rate : (place : ℕ) → slice_index rates place ≤ most

-- what six places save at most, where a set alone saves nothing
pub record IsSavedMost (rates : List ℕ) (days : ℕ → ℕ) (most : ℕ) : Type 0 where
  pub saved : ℕ → ℕ
  pub saves : Saves 6 rates days (λ _. 0) saved
  pub is : most ≡ saved (full 6)
