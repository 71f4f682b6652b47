-- A stripe: a list of buckets, each with entries of its own sets.
use Rattle.std.specs.Prelude.{ℕ, ◌<◌, ◌^◌, List, [], length, slice_index_or}
use Rattle.strip_film.specs.declared.shared.Known.{Known}
use Rattle.strip_table.specs.Home.{bucket_of}
use Rattle.strip_table.specs.Bucket.{IsBucket}

-- the bucket of this number
abbrev pub bucket_at : List (List Known) → ℕ → List Known
bucket_at stripe number = slice_index_or stripe number []

-- the bucket that the set belongs to
abbrev pub home : List (List Known) → ℕ → List Known
home stripe set = bucket_at stripe (bucket_of set (length stripe))

-- some buckets, at most 2 ^ 32 - 1, each of them one of so many
pub record IsStripe (stripe : List (List Known)) : Type 0 where
  pub some : 0 < length stripe
  pub count : length stripe < 2 ^ 32
  pub buckets : (number : ℕ) → number < length stripe → IsBucket (length stripe) number (bucket_at stripe number)
