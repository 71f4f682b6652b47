-- Days of sets of scenes, twelve scenes at a time.
use Rattle.std.specs.Prelude.{◌≡◌, ℕ, ◌*◌, ◌/◌, ◌%◌, ◌^◌, ◌<◌, ◌≤◌, List, [], drop, length, sum, slice_index, slice_index_or}
use Rattle.strip_mask.specs.Set.{sum_over}

-- those of twelve scenes that a set has, as a set of numbers below 12
abbrev pub block_of : ℕ → ℕ → ℕ
block_of set number = set / 2 ^ (12 * number) % 4096

-- for each twelve scenes the days of each set of them
pub record AreSums (days : List ℕ) (tables : List (List ℕ)) : Type 0 where
  pub short : length days ≤ 64
  pub day_sum : sum days ≤ 19800
  pub whole : length days ≤ 12 * length tables
  pub few : length tables ≤ 6
  pub each : (number set : ℕ) → number < length tables → set < 4096
      → slice_index (slice_index_or tables number []) set ≡ sum_over (drop (12 * number) days) set
