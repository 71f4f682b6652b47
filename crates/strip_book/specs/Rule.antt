-- The rule of a book, which holds between any two steps of any passes.
use Rattle.std.specs.Prelude.{◌≡◌, ◌⊎◌, ℕ, ◌+◌, ◌<◌, ◌≤◌, ◌==◌, true, false, if◌then◌else◌, List, [], ◌∷◌, length, max, min, slice_index, count_by, All}
use mathlib.Core.Option.{some}
use lib.ListN.{get_elem?}
use Rattle.atomic_table.specs.Table.{State}
use Rattle.strip_film.specs.declared.path.Path.{Path}
use Rattle.strip_film.specs.declared.shared.Line.{Line}
use Rattle.strip_film.specs.Film.{IsFilm}
use Rattle.strip_model.specs.declared.kind.Kind.TheVariants.{Plain}
use Rattle.strip_lines.specs.Lines.{AreJustified, GrowTo, line_at}
use Rattle.strip_lines.specs.Parts.{inside}
use Rattle.strip_lines.specs.Paths.{is_candidate, leaving, number_up_to}
use Rattle.strip_hand.specs.Hand.{IsRecord}
use Rattle.strip_hand.specs.Search.{SearchData, depth_of, search_rules}
use Rattle.strip_book.specs.View.{DraftData, EntryData, ViewData}
use Rattle.strip_book.specs.Words.{bound_word, count_word, set_word, word_count}

-- what a number of each adds up to
module _ {A : Type 0} where
  abbrev pub total : (A → ℕ) → List A → ℕ
  total amount [] = 0
  total amount (x ∷ xs) = amount x + total amount xs

-- the weight of the first pass, and so that of all passes together
abbrev pub full_weight : ℕ
full_weight = 4294967296

abbrev pub weight_of : ViewData → ℕ
weight_of view = view.weight

-- the weight, where the pass found that there are as many lines as there may be
abbrev pub spent_weight : ViewData → ℕ
spent_weight view = if view.spent then view.weight else 0

-- how many paths the pass enlisted
abbrev pub number_of : EntryData → ℕ
number_of entry = entry.number

abbrev pub numbers_of : ViewData → ℕ
numbers_of view = total number_of view.entries

-- how many candidates of the start with this set remaining come up to the last path of an entry, in its part
abbrev pub candidates_at : SearchData → ℕ → EntryData → ℕ
candidates_at search set entry =
    number_up_to (search_rules search) entry.last
    (inside (depth_of search) search.tasks entry.part (leaving set (is_candidate (search_rules search) search.start)))

abbrev pub candidates_of : SearchData → ℕ → ViewData → ℕ
candidates_of search set view = total (candidates_at search set) view.entries

-- how many of the lines have this set
abbrev pub lines_of : ℕ → List Line → ℕ
lines_of set lines = count_by (λ line. line.set == set) lines

-- an entry is a record of its part
abbrev pub IsEntry : SearchData → EntryData → Type 0
IsEntry search entry = IsRecord search entry.part (record { last = entry.last; number = entry.number })

-- the line of what is announced: what remains after the path, with its static bound
abbrev pub draft_line : ViewData → Line
draft_line view = record { set = view.about.path.rest; bound = (search_rules view.search).bound view.about.path.rest }

-- what the bound of the line is that a view writes: the word, and the static bound unless that was written
abbrev pub bound_due : ViewData → ℕ → ℕ
bound_due view word = max word (if view.half then 0 else (draft_line view).bound)

-- the line that a view writes is that of what it announced
pub record IsWriting (words : List ℕ) (lines : List Line) (view : ViewData) : Type 0 where
  pub there : view.at < length lines
  pub set : (line_at lines view.at).set ≡ view.about.path.rest
  pub bound : bound_due view (slice_index words (bound_word view.at)) ≡ (line_at lines view.at).bound

-- a view: what it knows and heard of grew to the lines, and where it found no room, there is none. One with weight
-- goes by the search, and its entries are records; one without has no entries and writes nothing
pub record Fits (search : SearchData) (words : List ℕ) (lines : List Line) (view : ViewData) : Type 0 where
  pub knows : GrowTo view.lines lines
  pub heard : GrowTo view.heard lines
  pub goes_by : 0 < view.weight → view.search ≡ search
  pub entries : All (IsEntry search) view.entries
  pub writes : view.writing ≡ true → IsWriting words lines view
  pub light : view.weight ≡ 0 → (view.writing ≡ false) × (view.entries ≡ [])
  pub spent : view.spent ≡ true → length lines ≡ search.nodes

-- a line stands in its words
abbrev pub Stands : List ℕ → Line → ℕ → Type 0
Stands words line number = (slice_index words (set_word number) ≡ line.set)
    × (slice_index words (bound_word number) ≡ line.bound)

-- some view writes the line of this number
abbrev pub IsWritten : List ViewData → ℕ → Type 0
IsWritten views number = (id : ℕ) × (view : ViewData) × (get_elem? views id ≡ some view) × (view.writing ≡ true)
    × (view.at ≡ number)

-- The lines are justified, and as many as were drawn, up to the most that there may be. Each stands in its words,
-- or some view writes it; the bound words of the others are 0. The numbers of all entries of all views add up to
-- the lines, and the lines of each set are at most the candidates with this set remaining up to the last paths of
-- all entries. The count exceeds the most lines by no more than the weight of those who found no room, so that it
-- never comes near the limit of a word
pub record IsBook (search : SearchData) (state : State Path ViewData) : Type 0 where
  pub lines : List Line
  pub count : ℕ
  pub words : length state.words ≡ word_count search.nodes
  pub head : slice_index state.words count_word ≡ count
  pub film : IsFilm search.film
  pub long : length lines ≡ min count search.nodes
  pub justified : AreJustified (search_rules search) lines
  pub fits : (id : ℕ) (view : ViewData) → get_elem? state.views id ≡ some view → Fits search state.words lines view
  pub places : (number : ℕ) → number < length lines → Stands state.words (line_at lines number) number
      ⊎ IsWritten state.views number
  pub fresh : (number : ℕ) → length lines ≤ number → number < search.nodes
      → slice_index state.words (bound_word number) ≡ 0
  pub whole : total weight_of state.views ≡ full_weight
  pub numbers : total numbers_of state.views ≡ length lines
  pub sets : (set : ℕ) → lines_of set lines ≤ total (candidates_of search set) state.views
  pub few : count ≤ search.nodes + total spent_weight state.views
  pub small : search.nodes ≤ 16777216

-- nothing announced
abbrev pub no_draft : DraftData
no_draft = record { part = 0; path = record { scenes = []; rest = 0; paid = 0 } }

-- the first pass knows no line and began no part
abbrev pub first_view : SearchData → ViewData
first_view search = record {
  weight = full_weight;
  spent = false;
  search = search;
  entries = [];
  lines = [];
  heard = [];
  about = no_draft;
  writing = false;
  half = false;
  at = 0;
}

-- a search of nothing
abbrev pub no_search : SearchData
no_search = record { film = record { casts = []; days = []; rates = []; holds = []; pairs = [] }; kind = Plain; nodes = 0; start = 0; tasks = [] }

-- what a pass is left with that another took in
abbrev pub spent_view : ViewData
spent_view = record {
  weight = 0;
  spent = false;
  search = no_search;
  entries = [];
  lines = [];
  heard = [];
  about = no_draft;
  writing = false;
  half = false;
  at = 0;
}
