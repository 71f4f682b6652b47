-- The best line of each set that stands in a list of lines.
use Rattle.std.specs.Prelude.{◌≡◌, ◌≢◌, ℕ, ◌<◌, ◌≤◌, ◌==◌, max, if◌then◌else◌, List, [], ◌∷◌, length, map, slice_index_or, All, Contains, Option, Some, None}
use Rattle.std.specs.List.Sorted.{IsStrictlyIncreasing}
use Rattle.strip_film.specs.declared.shared.Line.{Line}
use Rattle.strip_lines.specs.Lines.{line_at}
use Rattle.strip_trim.specs.declared.best.BestLine.{BestLine}

-- the best line of its set: the line at its place has its set and its bound, no line of the list with this set has
-- a greater bound, and none before it as great a one
pub record IsBestLine (lines : List Line) (best : BestLine) : Type 0 where
  pub within : best.line < length lines
  pub is : line_at lines best.line ≡ record { set = best.set; bound = best.bound }
  pub greatest : (place : ℕ) → place < length lines → (line_at lines place).set ≡ best.set
      → (line_at lines place).bound ≤ best.bound
  pub first : (place : ℕ) → place < best.line → (line_at lines place).set ≡ best.set
      → (line_at lines place).bound < best.bound

-- the sets of some best lines
abbrev pub sets_of : List BestLine → List ℕ
sets_of entries = map (λ best. best.set) entries

-- the best lines of a list, by rising set: one for each set that stands in a line
pub record AreBestLines (lines : List Line) (entries : List BestLine) : Type 0 where
  pub rising : IsStrictlyIncreasing (sets_of entries)
  pub each : All (IsBestLine lines) entries
  pub whole : (place : ℕ) → place < length lines → Contains (sets_of entries) (line_at lines place).set

-- what stands at a place that has no best line
abbrev pub no_best : BestLine
no_best = record { line = 0; set = 0; bound = 0 }

abbrev pub best_at : List BestLine → ℕ → BestLine
best_at entries place = slice_index_or entries place no_best

-- the entry of the set stands at the place; or there is none
abbrev pub IsPlaceOf : List BestLine → ℕ → Option ℕ → Type 0
IsPlaceOf entries set (Some place) = (place < length entries) × ((best_at entries place).set ≡ set)
IsPlaceOf entries set None = (place : ℕ) → place < length entries → (best_at entries place).set ≢ set

-- the greatest bound of the lines with this set; 0 where there is none
abbrev pub best_bound : List Line → ℕ → ℕ
best_bound [] set = 0
best_bound (line ∷ lines) set = if line.set == set then max line.bound (best_bound lines set) else best_bound lines set

-- what contracts see of the best lines of a list: the list, and its best lines
pub record BestData : Type 0 where
  pub lines : List Line
  pub entries : List BestLine

-- each line of the list with its place, in the order of the list
pub record ArePlaced (lines : List Line) (placed : List BestLine) : Type 0 where
  pub count : length placed ≡ length lines
  pub each : (place : ℕ) → place < length lines
      → best_at placed place ≡ record { line = place; set = (line_at lines place).set; bound = (line_at lines place).bound }
