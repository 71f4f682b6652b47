-- Marks on the places of a list of lines, as they are set.
use Rattle.std.specs.Prelude.{◌≡◌, ◌↔◌, ◌⊎◌, ℕ, Bool, true, false, List, length, filter, map, slice_index_or}
use Rattle.strip_mask.specs.Set.{numbers_below, without}
use Rattle.strip_film.specs.declared.shared.Line.{Line}
use Rattle.strip_film.specs.Rules.{Rules}
use Rattle.strip_lines.specs.Lines.{line_at}
use Rattle.strip_trim.specs.Trimmed.{IsBestAt, LeadsOn, LineStays}

abbrev pub is_marked : List Bool → ℕ → Bool
is_marked marks place = slice_index_or marks place false

-- the places that were marked are, and those of which this holds
abbrev pub MarksMore : List Bool → List Bool → (ℕ → Type 0) → Type 0
MarksMore before after Holds =
    (place : ℕ) → (is_marked after place ≡ true) ↔ ((is_marked before place ≡ true) ⊎ Holds place)

-- the best line of the set stands at the place
abbrev pub IsBestOf : List Line → ℕ → ℕ → Type 0
IsBestOf lines set place = IsBestAt lines place × ((line_at lines place).set ≡ set)

-- the best line of this set leads on to the one at the place
abbrev pub Follows : Rules → List Line → ℕ → ℕ → Type 0
Follows rules lines set place = (scene : ℕ) × LeadsOn rules lines set scene × IsBestOf lines (without set scene) place

-- the marks are at the places of lines that stay
pub record AreMarked (rules : Rules) (lines : List Line) (marks : List Bool) : Type 0 where
  pub count : length marks ≡ length lines
  pub exact : (place : ℕ) → (is_marked marks place ≡ true) ↔ LineStays rules lines place

-- the places that are marked, rising, and their lines
abbrev pub marked_places : List Bool → List ℕ
marked_places marks = filter (is_marked marks) (numbers_below (length marks))

abbrev pub marked_lines : List Line → List Bool → List Line
marked_lines lines marks = map (line_at lines) (marked_places marks)
