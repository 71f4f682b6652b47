-- What a memo of static bounds holds.
use Rattle.std.specs.Prelude.{◌≡◌, ℕ, ◌*◌, ◌<◌, ◌≤◌, Bool, true, false, List, All, length, slice_index_or}
use Rattle.strip_model.specs.declared.kind.Kind.{Kind}
use Rattle.strip_model.specs.Film.{FilmData}
use Rattle.strip_bound.specs.Bounds.{bound}
use Rattle.strip_memo.specs.declared.memo.Entry.{Entry}

-- the entry is true of its set: its value is at most the static bound, and the bound itself where the values are whole
pub record IsEntry (kind : Kind) (film : FilmData) (is_whole : Bool) (entry : Entry) : Type 0 where
  pub most : entry.value ≤ bound kind film entry.set
  pub whole : is_whole ≡ true → entry.value ≡ bound kind film entry.set

-- each entry is true of its set, and its value is the bound itself at each place that is marked
pub record IsMemo (kind : Kind) (film : FilmData) (is_whole : Bool) (kept : List Entry) (marks : List Bool) : Type 0 where
  pub entries : All (IsEntry kind film is_whole) kept
  pub marked : (place : ℕ) (entry : Entry) → place < length kept
      → slice_index_or marks place false ≡ true → IsEntry kind film true (slice_index_or kept place entry)

-- how many bytes a memo of so many entries takes at most: 16 for each entry, and a mark
abbrev pub bytes_of : ℕ → ℕ
bytes_of entries = 17 * entries
