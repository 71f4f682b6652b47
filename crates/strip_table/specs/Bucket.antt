-- A bucket: at most four entries, which are known lines, each of another set.
use Rattle.std.specs.Prelude.{◌≡◌, ◌≢◌, ℕ, ◌<◌, ◌≤◌, ◌==◌, List, [], ◌∷◌, ◌++◌, length, slice_set, All, Option, Some, None}
use Rattle.std.specs.List.{AllPairs, find, remove, slice_get}
use Rattle.strip_mask.specs.Set.{size}
use Rattle.strip_film.specs.declared.shared.Known.{Known}
use Rattle.strip_film.specs.declared.shared.Noted.{Noted}
use Rattle.strip_film.specs.declared.shared.Noted.TheVariants.{Fresh, Raised, Stays, Evicted}
use Rattle.strip_table.specs.Home.{bucket_of}

-- the entry of the set, if there is one
abbrev pub find_in : List Known → ℕ → Option Known
find_in bucket set = find (λ entry. entry.set == set) bucket

-- the bucket of this number among so many: few entries, no set twice, and each set belongs to it
pub record IsBucket (buckets number : ℕ) (bucket : List Known) : Type 0 where
  pub few : length bucket ≤ 4
  pub once : AllPairs (λ one other. one.set ≢ other.set) bucket
  pub own : All (λ entry. bucket_of entry.set buckets ≡ number) bucket

-- the entry of the set has a bound at least as great, and nothing changes
pub record IsKept (bucket : List Known) (known : Known) (after : List Known) (bound : ℕ) : Type 0 where
  pub entry : Known
  pub found : find_in bucket known.set ≡ Some entry
  pub as_great : known.bound ≤ entry.bound
  pub told : bound ≡ entry.bound
  pub same : after ≡ bucket

-- the entry of the set has a lesser bound, and in its place is the new line with its bound
pub record IsRaised (bucket : List Known) (known : Known) (after : List Known) : Type 0 where
  pub entry : Known
  pub found : find_in bucket known.set ≡ Some entry
  pub less : entry.bound < known.bound
  pub place : ℕ
  pub stands : slice_get bucket place ≡ Some entry
  pub written : after ≡ slice_set bucket place known

-- no entry of the set, and a free place: the new line comes behind the entries
pub record IsAdded (bucket : List Known) (known : Known) (after : List Known) : Type 0 where
  pub none : find_in bucket known.set ≡ None
  pub room : length bucket < 4
  pub added : after ≡ bucket ++ known ∷ []

-- the entry at the place has the fewest scenes in its set, and is the first of those that have as few
pub record HasFewest (bucket : List Known) (place : ℕ) (entry : Known) : Type 0 where
  pub stands : slice_get bucket place ≡ Some entry
  pub fewest : (k : ℕ) (other : Known) → slice_get bucket k ≡ Some other → size entry.set ≤ size other.set
  pub first : (k : ℕ) (other : Known) → slice_get bucket k ≡ Some other → k < place → size entry.set < size other.set

-- no entry of the set, and no free place: the entry with the fewest scenes leaves, those behind it close up, and
-- the new line comes behind them
pub record IsEvicted (bucket : List Known) (known : Known) (after : List Known) (set bound : ℕ) : Type 0 where
  pub none : find_in bucket known.set ≡ None
  pub full : 4 ≤ length bucket
  pub place : ℕ
  pub left : Known
  pub fewest : HasFewest bucket place left
  pub told_set : set ≡ left.set
  pub told_bound : bound ≡ left.bound
  pub replaced : after ≡ remove bucket place ++ known ∷ []

-- what a known line makes of a bucket, with this answer
abbrev pub Puts : List Known → Known → List Known → Noted → Type 0
Puts bucket known after (Stays bound) = IsKept bucket known after bound
Puts bucket known after Raised = IsRaised bucket known after
Puts bucket known after Fresh = IsAdded bucket known after
Puts bucket known after (Evicted set bound) = IsEvicted bucket known after set bound
