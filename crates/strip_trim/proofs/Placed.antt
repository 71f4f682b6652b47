-- Each line with its place, one after the other.
use Rattle.std.proofs.Common.{◌≡◌, ℕ, ◌<◌, List, length}
use Rattle.strip_film.specs.declared.shared.Line.{Line}
use Rattle.strip_lines.specs.Lines.{line_at}
use Rattle.strip_trim.specs.declared.best.BestLine.{BestLine}
use Rattle.strip_trim.specs.Best.{best_at}

abbrev pub placed_line : ℕ → Line → BestLine
placed_line place line = record { line = place; set = line.set; bound = line.bound }

-- the first n lines have their places
pub record ArePlacedUpTo (n : ℕ) (lines : List Line) (placed : List BestLine) : Type 0 where
  pub count : length placed ≡ n
  pub each : (place : ℕ) → place < n → best_at placed place ≡ placed_line place (line_at lines place)
