-- What a search by layers ends with.
use Rattle.std.specs.Prelude.{◌≡◌, ℕ, ◌<◌, ◌≤◌, ◌⊎◌, ◌==◌, Bool, true, false, List, length, count_by, All}
use Rattle.strip_model.specs.declared.kind.Kind.{Kind}
use Rattle.strip_model.specs.Film.{FilmData}
use Rattle.strip_model.specs.Pay.{IsLeast}
use Rattle.strip_film.specs.declared.shared.Line.{Line}
use Rattle.strip_film.specs.Film.{all_scenes}
use Rattle.strip_film.specs.Path.{PathData, IsComplete}
use Rattle.strip_lines.specs.Lines.{AreJustified, ahead, known, line_at, rules_of}
use Rattle.strip_lines.specs.Apart.{AreApart, IsLeft}
use Rattle.strip_lines.specs.Paths.{candidate_count, leaving_count}
use Rattle.strip_layers.specs.Search.{SearchData}

pub record LayeredData : Type 0 where
  pub lines : List Line
  pub bound : ℕ
  pub best : PathData
  pub is_spent : Bool

-- the search was cut short: the bound is below what the best path pays, and at least the look-ahead of all scenes; and
-- there are as many lines as there may be, and fewer than candidates of the start
pub record WasCutShort (kind : Kind) (film : FilmData) (start : PathData) (nodes : ℕ) (layered : LayeredData) : Type 0 where
  pub full : length layered.lines ≡ nodes
  pub fewer : nodes < candidate_count (rules_of kind film) start.paid
  pub reaches : ahead (rules_of kind film) (all_scenes film) ≤ layered.bound
  pub below : layered.bound < layered.best.paid

-- the best path is complete and no dearer than the start; the lines are justified, no two of one set, each of a set
-- that a candidate of the start leaves, at most as many as there may be, and so at most as many as candidates of
-- the start, in all and of each set; the bound is what they make known of all scenes, which no order pays less
-- than; and unless the search was cut short, it is what the best path pays
pub record IsLayered (kind : Kind) (film : FilmData) (start : PathData) (nodes : ℕ) (layered : LayeredData) : Type 0 where
  pub best : IsComplete film layered.best
  pub no_dearer : layered.best.paid ≤ start.paid
  pub justified : AreJustified (rules_of kind film) layered.lines
  pub apart : AreApart layered.lines
  pub left : All (λ line. IsLeft (rules_of kind film) start.paid line.set) layered.lines
  pub most : length layered.lines ≤ nodes
  pub candidates : length layered.lines ≤ candidate_count (rules_of kind film) start.paid
  pub sets : (set : ℕ) → count_by (λ line. line.set == set) layered.lines
      ≤ leaving_count (rules_of kind film) start.paid set
  pub bound : layered.bound ≡ known (rules_of kind film) layered.lines (all_scenes film)
  pub true_bound : IsLeast film layered.bound
  pub spent : layered.is_spent ≡ true → WasCutShort kind film start nodes layered
  pub closed : layered.is_spent ≡ false → layered.bound ≡ layered.best.paid

-- the search is spent, or the line of all scenes has what the best path pays
abbrev pub HasEnded : SearchData → Type 0
HasEnded search = (search.spent ≡ true) ⊎ (search.best.paid ≤ (line_at search.lines 0).bound)

-- what a search ends with that has ended: what the first line has is the bound
pub record IsEnd (search : SearchData) (layered : LayeredData) : Type 0 where
  pub lines : layered.lines ≡ search.lines
  pub bound : layered.bound ≡ (line_at search.lines 0).bound
  pub best : layered.best ≡ search.best
  pub spent : layered.is_spent ≡ true → search.spent ≡ true
  pub below : layered.is_spent ≡ true → layered.bound < search.best.paid
  pub closed : layered.is_spent ≡ false → (search.spent ≡ false) ⊎ (search.best.paid ≤ layered.bound)
