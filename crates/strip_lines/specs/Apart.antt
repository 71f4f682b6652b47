-- Lines of which no two have the same set.
use Rattle.std.specs.Prelude.{◌≡◌, ◌≢◌, ℕ, true, List}
use Rattle.std.specs.List.{AllPairs}
use Rattle.strip_film.specs.declared.shared.Line.{Line}
use Rattle.strip_film.specs.Path.{PathData}
use Rattle.strip_film.specs.Rules.{Rules}
use Rattle.strip_lines.specs.Paths.{IsUnfinished, is_candidate}

-- no two lines of the list have the same set
abbrev pub AreApart : List Line → Type 0
AreApart lines = AllPairs (λ a b. a.set ≢ b.set) lines

-- a candidate leaves the set
pub record IsLeft (rules : Rules) (cost set : ℕ) : Type 0 where
  pub path : PathData
  pub unfinished : IsUnfinished rules.film path
  pub candidate : is_candidate rules cost path ≡ true
  pub leaves : path.rest ≡ set
