-- The files at a moment, and what a read copies.
use Rattle.std.specs.Prelude.{◌≡◌, ℕ, ◌≤◌, Bool, List, length, take, drop, Option}

-- the files at a moment
pub record FilesData : Type 0 where
  -- which names are held
  pub holds : List ℕ → Bool
  -- the bytes of a held name, where they are told
  pub bytes : List ℕ → Option (List ℕ)
  -- how often reads of a name have failed, at most 2^64 - 1
  pub faults : List ℕ → ℕ
  -- how many bytes reads of a name have given, at most 2^64 - 1
  pub came : List ℕ → ℕ

abbrev pub files_data : (List ℕ → Bool) → (List ℕ → Option (List ℕ)) → (List ℕ → ℕ) → (List ℕ → ℕ) → FilesData
files_data holds bytes faults came = record { holds = holds; bytes = bytes; faults = faults; came = came }

-- the first n bytes of the buffer are those of the text from this place on, and none only where the text ends there
pub record CopiesFrom (text : List ℕ) (at n : ℕ) (into : List ℕ) : Type 0 where
  pub bytes : take n into ≡ take n (drop at text)
  pub ends : n ≡ 0 → length text ≤ at
