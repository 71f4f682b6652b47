-- Passes and copies of a book, and what their calls ask for and make of them.
use Rattle.std.specs.Prelude.{◌≡◌, ◌≢◌, ℕ, suc, ◌+◌, ◌<◌, ◌≤◌, true, false, Some, None, List, [], ◌∷◌, ◌++◌, length, All}
use Rattle.atomic_table.specs.Seated.{TableId}
use Rattle.atomic_table.specs.declared.shared.Seat.{Seat}
use Rattle.strip_film.specs.declared.path.Path.{Path}
use Rattle.strip_film.specs.declared.shared.Line.{Line as LineData}
use Rattle.strip_film.specs.declared.shared.Listed.{Listed}
use Rattle.strip_film.specs.declared.shared.Listed.TheVariants.{Line, Spent}
use Rattle.strip_film.specs.Film.{IsFilm}
use Rattle.strip_film.specs.Path.{PathData}
use Rattle.strip_film.specs.Rules.{IsOpen}
use Rattle.strip_lines.specs.Lines.{AreJustified, GrowTo, IsJustified, line_at}
use Rattle.strip_lines.specs.Parts.{lies_in}
use Rattle.strip_lines.specs.Paths.{ComesAfter}
use Rattle.strip_hand.specs.Hand.{RecordData, no_path_yet}
use Rattle.strip_hand.specs.Search.{SearchData, depth_of, search_rules}
use Rattle.strip_book.specs.declared.book.Book.{Book}
use Rattle.strip_book.specs.declared.pass.BookPass.{BookPass}
use Rattle.strip_book.specs.declared.pass.BookCopy.{BookCopy}
use Rattle.strip_book.specs.View.{EntryData, ViewData, new_entry, parts_of, record_at}
use Rattle.strip_book.specs.Rule.{IsEntry, candidates_of, draft_line, first_view, full_weight, lines_of, numbers_of}
use Rattle.strip_book.specs.Steps.{OwnsAll}

-- what the pass knows
abbrev pub known : BookPass → ViewData
known pass = pass.seat.me.0

-- the lines that a copy knows
abbrev pub known_lines : BookCopy → List LineData
known_lines copy = copy.seat.me.0.lines

-- which words these are, and the search that they are of
pub record TableData : Type 0 where
  pub words : TableId
  pub search : SearchData

abbrev pub table_of : Book → TableData
table_of book = record { words = book.table.shared.table_id; search = book.table.shared.key }

abbrev pub search_of : Book → SearchData
search_of book = (table_of book).search

-- the pass steps on these words and goes by their search, has weight and writes nothing; the lines that it knows
-- are justified and no more than there may be, and its entries are records of their parts
pub record IsPassOf (book : Book) (pass : BookPass) : Type 0 where
  pub table : pass.seat.table_id ≡ (table_of book).words
  pub search : (known pass).search ≡ search_of book
  pub no_slots : pass.seat.me.1 ≡ []
  pub some_weight : 0 < (known pass).weight
  pub idle : (known pass).writing ≡ false
  pub justified : AreJustified (search_rules (known pass).search) (known pass).lines
  pub few : length (known pass).lines ≤ (known pass).search.nodes
  pub entries : All (IsEntry (known pass).search) (known pass).entries

-- a seat of these words that holds no slot and has weight
pub record IsSeatOf (book : Book) (seat : Seat Path ViewData) : Type 0 where
  pub table : seat.table_id ≡ (table_of book).words
  pub no_slots : seat.me.1 ≡ []
  pub some_weight : 0 < seat.me.0.weight

-- the view writes the line of this number, of which nothing stands yet, for a path with this static bound
pub record Writes (view : ViewData) (line : ℕ) (path : PathData) (bound : ℕ) : Type 0 where
  pub writes : view.writing ≡ true
  pub whole : view.half ≡ false
  pub number : view.at ≡ line
  pub path_is : view.about.path ≡ path
  pub static_bound : bound ≡ (draft_line view).bound

-- the copy is one of these words and goes by their search, of a film within limits; it has no weight and writes
-- nothing, and the lines that it knows are justified and no more than there may be
pub record IsCopyOf (table : TableData) (copy : BookCopy) : Type 0 where
  pub words : copy.seat.table_id ≡ table.words
  pub search : copy.seat.me.0.search ≡ table.search
  pub film : IsFilm table.search.film
  pub no_slots : copy.seat.me.1 ≡ []
  pub no_weight : copy.seat.me.0.weight ≡ 0
  pub idle : copy.seat.me.0.writing ≡ false
  pub justified : AreJustified (search_rules table.search) (known_lines copy)
  pub few : length (known_lines copy) ≤ table.search.nodes

-- the words are new, and this is their one pass
pub record IsFirst (search : SearchData) (book : Book) (pass : BookPass) : Type 0 where
  pub pass_of : IsPassOf book pass
  pub knows : known pass ≡ first_view search

-- weight and search stay, and what is known grows
pub record KeepsView (before after : ViewData) : Type 0 where
  pub weight : after.weight ≡ before.weight
  pub search : after.search ≡ before.search
  pub grow : GrowTo before.lines after.lines

-- a part may be begun that the search has, and the pass hasn't
pub record MayBegin (view : ViewData) (part : ℕ) : Type 0 where
  pub known_part : part < suc (length view.search.tasks)
  pub fresh : record_at part view.entries ≡ None

-- begin: the part is one more of the entries, without a path
pub record BeginsPart (before : ViewData) (part : ℕ) (after : ViewData) : Type 0 where
  pub stays : KeepsView before after
  pub lines : after.lines ≡ before.lines
  pub entries : after.entries ≡ before.entries ++ new_entry part ∷ []
  pub here : record_at part after.entries ≡ Some no_path_yet
  pub others : (other : ℕ) → other ≢ part → record_at other after.entries ≡ record_at other before.entries

-- the path is the next one of a part: the pass began the part, and it is an open path of it that comes after the
-- last one and is a candidate of the start, with something remaining
pub record IsNext (search : SearchData) (entries : List EntryData) (part : ℕ) (path : PathData) : Type 0 where
  pub entry : RecordData
  pub stands : record_at part entries ≡ Some entry
  pub is_open : IsOpen (search_rules search) path
  pub lies : lies_in (depth_of search) search.tasks part path ≡ true
  pub later : ComesAfter (search_rules search) entry.last path
  pub some : path.rest ≢ 0
  pub below : path.paid + (search_rules search).bound path.rest < search.start

-- a path may be enlisted that is the next one of its part, with the static bound of what remains
pub record MayEnlistNext (view : ViewData) (part : ℕ) (path : PathData) (bound : ℕ) : Type 0 where
  pub next : IsNext view.search view.entries part path
  pub static_bound : bound ≡ (search_rules view.search).bound path.rest

-- the part's record has the path as its last one and one more, and the other parts stay, all in their order
pub record Counts (before : List EntryData) (part : ℕ) (path : PathData) (after : List EntryData) : Type 0 where
  pub entry : RecordData
  pub was : record_at part before ≡ Some entry
  pub is : record_at part after ≡ Some (record { last = Some path; number = entry.number + 1 })
  pub others : (other : ℕ) → other ≢ part → record_at other after ≡ record_at other before
  pub parts : parts_of after ≡ parts_of before

-- a line is made: it wasn't known before, and now it is, with what remains and this bound; and it is counted
pub record MakesLine (before : ViewData) (part : ℕ) (path : PathData) (bound line : ℕ) (after : ViewData) : Type 0 where
  pub stays : KeepsView before after
  pub fresh : length before.lines ≤ line
  pub there : line < length after.lines
  pub made : line_at after.lines line ≡ record { set = path.rest; bound = bound }
  pub counted : Counts before.entries part path after.entries

-- there are as many lines as there may be
pub record ViewIsSpent (before : ViewData) (count : ℕ) (after : ViewData) : Type 0 where
  pub stays : KeepsView before after
  pub entries : after.entries ≡ before.entries
  pub counted : length after.lines ≡ count
  pub full : count ≡ before.search.nodes

-- enlist
abbrev pub Enlists : ViewData → ℕ → PathData → ℕ → Listed → ViewData → Type 0
Enlists before part path bound (Line line) after = MakesLine before part path bound line after
Enlists before part path bound (Spent count) after = ViewIsSpent before count after

-- raise asks for a known line, and a bound that what is known justifies for its set
pub record MayRaiseKnown (view : ViewData) (line bound : ℕ) : Type 0 where
  pub there : line < length view.lines
  pub justified : IsJustified (search_rules view.search) view.lines (record { set = (line_at view.lines line).set; bound = bound })

-- raise: the line is known with at least this bound
pub record Raises (before : ViewData) (line bound : ℕ) (after : ViewData) : Type 0 where
  pub stays : KeepsView before after
  pub entries : after.entries ≡ before.entries
  pub raised : bound ≤ (line_at after.lines line).bound

-- join: the pass has both weights and both entries, and knows what both knew
pub record Joins (before other after : ViewData) : Type 0 where
  pub weight : after.weight ≡ before.weight + other.weight
  pub search : after.search ≡ before.search
  pub entries : after.entries ≡ before.entries ++ other.entries
  pub grow : GrowTo before.lines after.lines
  pub others : GrowTo other.lines after.lines

-- settle: a pass of full weight knows all lines, which are all of its own entries
pub record Settles (before after : ViewData) : Type 0 where
  pub stays : KeepsView before after
  pub entries : after.entries ≡ before.entries
  pub all : before.weight ≡ full_weight → OwnsAll after

-- hear: the pass knows what was known to it and to another
pub record Hears (before : ViewData) (others : List LineData) (after : ViewData) : Type 0 where
  pub stays : KeepsView before after
  pub entries : after.entries ≡ before.entries
  pub heard : GrowTo others after.lines

-- all lines: they are justified, no more than there may be, those that are known stand among them, and they are all
-- of the pass's entries
pub record AreAll (view : ViewData) (lines : List LineData) : Type 0 where
  pub justified : AreJustified (search_rules view.search) lines
  pub few : length lines ≤ view.search.nodes
  pub grow : GrowTo view.lines lines
  pub numbers : numbers_of view ≡ length lines
  pub sets : (set : ℕ) → lines_of set lines ≤ candidates_of view.search set view
