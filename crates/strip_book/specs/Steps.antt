-- What each step makes of the view of a pass, and what it tells the pass.
use Rattle.std.specs.Prelude.{◌≡◌, ℕ, ◌+◌, ◌-◌, ◌<◌, ◌≤◌, ◌||◌, true, false, List, [], ◌∷◌, ◌++◌, length, All}
use mathlib.Core.Option.{Option, none, some}
use Rattle.strip_film.specs.declared.path.Path.{Path}
use Rattle.strip_film.specs.declared.shared.Line.{Line}
use Rattle.strip_film.specs.Path.{PathData}
use Rattle.strip_film.specs.Shown.{path_data}
use Rattle.strip_lines.specs.Lines.{AreJustified, GrowTo, line_at}
use Rattle.strip_hand.specs.Search.{search_rules}
use Rattle.strip_book.specs.View.{ViewData, enlisted, new_entry}
use Rattle.strip_book.specs.Rule.{IsEntry, candidates_of, draft_line, full_weight, lines_of, numbers_of}
use Rattle.strip_book.specs.Words.{bound_word}

-- what a pass learns at a step: all lines, which what it knew and heard of grew to; they are justified, and no more
-- than there may be
pub record HasLearnt (before : ViewData) (lines : List Line) : Type 0 where
  pub knew : GrowTo before.lines lines
  pub heard : GrowTo before.heard lines
  pub justified : AreJustified (search_rules before.search) lines
  pub few : length lines ≤ before.search.nodes
  pub full : before.spent ≡ true → length lines ≡ before.search.nodes

-- a path is announced as one of a part
abbrev pub about : ViewData → ℕ → PathData → ViewData
about view part path = record view { about = record { part = part; path = path } }

abbrev pub HasAnnounced : Option Path → ℕ → ViewData → ViewData → Type 0
HasAnnounced none part before after = ⊥
HasAnnounced (some path) part before after = after ≡ about before part (path_data path)

-- a part is begun: it is one more of the entries
abbrev pub with_part : ViewData → ℕ → ViewData
with_part view part = record view { entries = view.entries ++ new_entry part ∷ [] }

-- the pass with a line more of what it announced, which it writes
abbrev pub drawn : ViewData → List Line → ℕ → ViewData
drawn before lines found = record before {
  lines = lines ++ draft_line before ∷ [];
  heard = [];
  entries = enlisted before.about.part before.about.path before.entries;
  writing = true;
  half = false;
  at = found;
}

-- a line was drawn: it is the next one, and justified
pub record HasMade (before : ViewData) (found : ℕ) (after : ViewData) : Type 0 where
  pub lines : List Line
  pub learnt : HasLearnt before lines
  pub count : length lines ≡ found
  pub justified : AreJustified (search_rules before.search) (lines ++ draft_line before ∷ [])
  pub entries : All (IsEntry before.search) (enlisted before.about.part before.about.path before.entries)
  pub only : after ≡ drawn before lines found

-- none was left: the pass knows as many lines as there may be
pub record HasSpent (before after : ViewData) : Type 0 where
  pub lines : List Line
  pub learnt : HasLearnt before lines
  pub count : length lines ≡ before.search.nodes
  pub only : after ≡ record before { lines = lines; heard = []; spent = true }

pub record HasDrawn (before : ViewData) (found : ℕ) (after : ViewData) : Type 0 where
  pub made : found < before.search.nodes → HasMade before found after
  pub none_left : before.search.nodes ≤ found → HasSpent before after

-- the bound of the line that is written stands in its word; and so does its set, which ends the writing
abbrev pub half_written : ViewData → ViewData
half_written view = record view { half = true }

abbrev pub written : ViewData → ViewData
written view = record view { writing = false }

-- the pass with these lines
abbrev pub knowing : ViewData → List Line → ViewData
knowing view lines = record view { lines = lines; heard = [] }

-- a raise of the bound in a word: the line of this word has at least the bound
pub record HasRaised (word bound : ℕ) (before after : ViewData) : Type 0 where
  pub lines : List Line
  pub learnt : HasLearnt before lines
  pub only : after ≡ knowing before lines
  pub raised_to : (line : ℕ) → word ≡ bound_word line → bound ≤ (line_at lines line).bound

-- all lines are of the entries: the numbers add up to them, and those of each set are few
pub record OwnsAll (view : ViewData) : Type 0 where
  pub numbers : numbers_of view ≡ length view.lines
  pub sets : (set : ℕ) → lines_of set view.lines ≤ candidates_of view.search set view

-- a load: the pass knows all lines; where it has all the weight, they are all of its own entries
pub record HasSeen (before after : ViewData) : Type 0 where
  pub lines : List Line
  pub learnt : HasLearnt before lines
  pub only : after ≡ knowing before lines
  pub all : before.weight ≡ full_weight → OwnsAll (knowing before lines)

-- a load of a view without weight: it knows all lines
pub record HasCompared (before after : ViewData) : Type 0 where
  pub lines : List Line
  pub learnt : HasLearnt before lines
  pub only : after ≡ knowing before lines

-- a split: the pass loses a weight of 1, which the new one has, that knows as much and began no part
abbrev pub lightened : ViewData → ViewData
lightened view = record view { weight = view.weight - 1 }

abbrev pub split_off : ViewData → ViewData
split_off view = record view { weight = 1; entries = [] }

-- a copy, without weight, knows as much
abbrev pub copied : ViewData → ViewData
copied view = record view { weight = 0; spent = false; entries = []; writing = false }

-- a join: weights and entries of both together; what the other knew was heard of
abbrev pub joined : ViewData → ViewData → ViewData
joined view other = record view {
  weight = view.weight + other.weight;
  spent = view.spent || other.spent;
  entries = view.entries ++ other.entries;
  heard = other.lines;
}

-- what a copy knew was heard of
abbrev pub heard_from : ViewData → ViewData → ViewData
heard_from view other = record view { heard = other.lines }
