-- What a pass knows, as plain data.
use Rattle.std.specs.Prelude.{ℕ, ◌+◌, ◌≤◌, ◌==◌, Bool, if◌then◌else◌, Option, Some, None, List, [], ◌∷◌, count_by, map}
use Rattle.strip_film.specs.declared.shared.Line.{Line}
use Rattle.strip_film.specs.Path.{PathData}
use Rattle.strip_hand.specs.Hand.{RecordData}
use Rattle.strip_hand.specs.Search.{SearchData}

-- a part that a pass began: the last path that it enlisted there, and how many
pub record EntryData : Type 0 where
  pub part : ℕ
  pub last : Option PathData
  pub number : ℕ

-- a path that is to be enlisted in a part
pub record DraftData : Type 0 where
  pub part : ℕ
  pub path : PathData

-- A pass: its weight; whether it found that there are as many lines as there may be; the search; the parts that it
-- began, in their order; the lines that it knows, by their numbers, with bounds that they have at least; those that
-- it heard of from another pass; what it announced; and whether it writes the line of a number, and has written its
-- bound
pub record ViewData : Type 0 where
  pub weight : ℕ
  pub spent : Bool
  pub search : SearchData
  pub entries : List EntryData
  pub lines : List Line
  pub heard : List Line
  pub about : DraftData
  pub writing : Bool
  pub half : Bool
  pub at : ℕ

-- the record of a part: that of its first entry, if it has one
abbrev pub record_at : ℕ → List EntryData → Option RecordData
record_at part [] = None
record_at part (entry ∷ entries) =
    if entry.part == part then Some (record { last = entry.last; number = entry.number }) else record_at part entries

-- an entry of a part in which nothing was enlisted yet
abbrev pub new_entry : ℕ → EntryData
new_entry part = record { part = part; last = None; number = 0 }

-- the entry with a path as its last one, and one more
abbrev pub with_path : EntryData → PathData → EntryData
with_path entry path = record { part = entry.part; last = Some path; number = entry.number + 1 }

-- the entries, where a path was enlisted in a part
abbrev pub enlisted : ℕ → PathData → List EntryData → List EntryData
enlisted part path [] = []
enlisted part path (entry ∷ entries) =
    if entry.part == part then with_path entry path ∷ entries else entry ∷ enlisted part path entries

-- the last path of a record, and how many paths it counts; without a record none
abbrev pub last_of : Option RecordData → Option PathData
last_of None = None
last_of (Some kept) = kept.last

abbrev pub number_of_record : Option RecordData → ℕ
number_of_record None = 0
number_of_record (Some kept) = kept.number

-- the last path that was enlisted in a part, and how many were
abbrev pub last_in : List EntryData → ℕ → Option PathData
last_in entries part = last_of (record_at part entries)

abbrev pub number_in : List EntryData → ℕ → ℕ
number_in entries part = number_of_record (record_at part entries)

-- the parts of the entries, in their order; none of them stands twice
abbrev pub parts_of : List EntryData → List ℕ
parts_of entries = map (λ entry. entry.part) entries

abbrev pub AreApart : List EntryData → Type 0
AreApart entries = (part : ℕ) → count_by (λ other. other == part) (parts_of entries) ≤ 1
