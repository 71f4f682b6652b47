-- What a search by layers has so far, and how it changes.
use Rattle.std.specs.Prelude.{◌≡◌, ℕ, ◌<◌, ◌≤◌, ◌⊎◌, ◌==◌, nat_eq, Bool, true, false, Option, None, Some, List, [], ◌∷◌, ◌++◌, length, All}
use Rattle.std.specs.List.{position}
use Rattle.std.specs.Map.{lookup}
use Rattle.strip_model.specs.declared.kind.Kind.{Kind}
use Rattle.strip_model.specs.Film.{FilmData}
use Rattle.strip_film.specs.declared.shared.Line.{Line}
use Rattle.strip_film.specs.Film.{all_scenes}
use Rattle.strip_film.specs.Path.{PathData, IsComplete}
use Rattle.strip_film.specs.Rules.{Rules}
use Rattle.strip_bound.specs.Bounds.{bound}
use Rattle.strip_lines.specs.Lines.{AreJustified, GrowTo, ahead, line_at}
use Rattle.strip_lines.specs.Apart.{AreApart, IsLeft}
use Rattle.strip_lines.specs.Paths.{candidate_count}
use Rattle.strip_layers.specs.declared.ask.Ask.{Ask}
use Rattle.strip_layers.specs.declared.found.Lowest.{Lowest}
use Rattle.strip_layers.specs.Asks.{Suffices}

-- the lines, the cheapest complete path, what the path paid that the search began with, how many lines there may be,
-- and whether one more was wanted
pub record SearchData : Type 0 where
  pub lines : List Line
  pub best : PathData
  pub goal : ℕ
  pub nodes : ℕ
  pub spent : Bool

-- the search was cut short: there are as many lines as there may be, and fewer than candidates of the goal
pub record IsFull (rules : Rules) (search : SearchData) : Type 0 where
  pub full : length search.lines ≡ search.nodes
  pub fewer : search.nodes < candidate_count rules search.goal

-- the line of all scenes is the first, and has their look-ahead at least
pub record HasWhole (rules : Rules) (search : SearchData) : Type 0 where
  pub some : 0 < length search.lines
  pub set : (line_at search.lines 0).set ≡ all_scenes rules.film
  pub ahead : ahead rules (all_scenes rules.film) ≤ (line_at search.lines 0).bound

-- the lines are justified; no two have the same set, which a candidate of the goal leaves; there are no more than
-- there may be, and as many if one more was wanted; and the best path is complete and pays no more than the goal
pub record IsSearch (rules : Rules) (search : SearchData) : Type 0 where
  pub justified : AreJustified rules search.lines
  pub apart : AreApart search.lines
  pub left : All (λ line. IsLeft rules search.goal line.set) search.lines
  pub few : length search.lines ≤ search.nodes
  pub spent : search.spent ≡ true → IsFull rules search
  pub whole : HasWhole rules search
  pub best : IsComplete rules.film search.best
  pub no_dearer : search.best.paid ≤ search.goal

-- lines are added behind the others, and nothing is raised
pub record Extends (before after : SearchData) : Type 0 where
  pub best : after.best ≡ before.best
  pub goal : after.goal ≡ before.goal
  pub nodes : after.nodes ≡ before.nodes
  pub more : List Line
  pub lines : after.lines ≡ before.lines ++ more
  pub spent : before.spent ≡ true → after.spent ≡ true

-- lines grow, and the best path pays no more
pub record Rises (before after : SearchData) : Type 0 where
  pub goal : after.goal ≡ before.goal
  pub nodes : after.nodes ≡ before.nodes
  pub grow : GrowTo before.lines after.lines
  pub cheaper : after.best.paid ≤ before.best.paid
  pub spent : before.spent ≡ true → after.spent ≡ true

-- the line at a place is one of the set
pub record HasLine (lines : List Line) (rest place : ℕ) : Type 0 where
  pub there : place < length lines
  pub set : (line_at lines place).set ≡ rest

-- what was found of static bounds is at most these
pub record IsLowest (kind : Kind) (film : FilmData) (set : ℕ) (lowest : Lowest) : Type 0 where
  pub most : lowest.value ≤ bound kind film set
  pub whole : lowest.is_whole ≡ true → lowest.value ≡ bound kind film set

abbrev pub AreTrue : Kind → FilmData → List (ℕ × Lowest) → Type 0
AreTrue kind film found = (set : ℕ) (lowest : Lowest) → lookup (nat_eq set) found ≡ Some lowest → IsLowest kind film set lowest

-- the value of a set that was asked for suffices
abbrev pub AskedIsTrue : Kind → FilmData → Ask → Type 0
AskedIsTrue kind film ask = ask.is_known ≡ false → Suffices kind film ask.set ask.need ask.value

-- the line was added behind the others, or there were as many as there may be
abbrev pub Adds : SearchData → Line → Option ℕ → SearchData → Type 0
Adds before line None after = (before.nodes ≤ length before.lines) × (after ≡ record before { spent = true })
Adds before line (Some place) after =
    (place ≡ length before.lines) × (length before.lines < before.nodes)
    × (after ≡ record before { lines = before.lines ++ line ∷ [] })

-- the set has a line already, or one is added
abbrev pub Opens : SearchData → Line → Option ℕ → SearchData → Type 0
Opens before line place after =
    ((there : ℕ) × HasLine before.lines line.set there × (place ≡ Some there) × (after ≡ before))
    ⊎ ((position (λ other. other.set == line.set) before.lines ≡ None) × Adds before line place after)
