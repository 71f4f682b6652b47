-- Counts of faults, and of the bytes that reads gave.
use Rattle.std.specs.Prelude.{◌≡◌, ◌≢◌, ℕ, ◌+◌, ◌-◌, ◌^◌, ◌≤◌, min, Bool, false, ◌⊎◌, List}

-- the count rose, or stands at the end of its type, where no rise can be told
abbrev pub Rose : ℕ → ℕ → Type 0
Rose before now = min (before + 1) (2 ^ 64 - 1) ≤ now

-- the count of this name didn't fall, and that of every other name stayed
pub record CountsOnly (name : List ℕ) (before now : List ℕ → ℕ) : Type 0 where
  pub later : before name ≤ now name
  pub others : (other : List ℕ) → other ≢ name → now other ≡ before other

-- a read of the name failed: its count rose, or the name isn't held
abbrev pub ReadFailed : List ℕ → (List ℕ → Bool) → (List ℕ → ℕ) → (List ℕ → ℕ) → Type 0
ReadFailed name held before now = Rose (before name) (now name) ⊎ (held name ≡ false)

-- n bytes of this name came, by a count that stands at the end of its type, and of every other name none
pub record CameOnly (name : List ℕ) (n : ℕ) (before now : List ℕ → ℕ) : Type 0 where
  pub here : now name ≡ min (before name + n) (2 ^ 64 - 1)
  pub others : (other : List ℕ) → other ≢ name → now other ≡ before other

-- n bytes came at least, or the count stands at the end of its type, where no more can be told
abbrev pub CameAtLeast : ℕ → ℕ → ℕ → Type 0
CameAtLeast n before now = min (before + n) (2 ^ 64 - 1) ≤ now
