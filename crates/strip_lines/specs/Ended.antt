-- What a search has that ran to its end.
use Rattle.std.specs.Prelude.{◌≡◌, ℕ, ◌<◌, ◌≤◌, ◌==◌, Bool, true, false, List, length, count_by}
use Rattle.strip_model.specs.declared.kind.Kind.{Kind}
use Rattle.strip_model.specs.Film.{FilmData}
use Rattle.strip_model.specs.Order.{IsKeptOrder}
use Rattle.strip_model.specs.Pay.{IsLeast, pay_of}
use Rattle.strip_film.specs.declared.shared.Line.{Line}
use Rattle.strip_film.specs.Film.{all_scenes}
use Rattle.strip_film.specs.Path.{PathData}
use Rattle.strip_lines.specs.declared.ended.Ended.{Ended}
use Rattle.strip_lines.specs.Lines.{AreJustified, ahead, known, rules_of}
use Rattle.strip_lines.specs.Paths.{candidate_count, leaving_count}

-- an order and what it costs; a bound on what any order pays; the lines and their number; and whether there would have
-- been more
pub record EndedData : Type 0 where
  pub order : List ℕ
  pub cost : ℕ
  pub bound : ℕ
  pub held : ℕ
  pub lines : List Line
  pub spent : Bool

-- what contracts see of the end of a search
abbrev pub ended_data : Ended → EndedData
ended_data ended = record {
  order = ended.order.items;
  cost = ended.cost;
  bound = ended.bound;
  held = ended.held;
  lines = ended.lines.items;
  spent = ended.spent;
}

-- the search was cut short: there are as many lines as there may be, and fewer than candidates of the start; and the
-- bound is at least the look-ahead of all scenes
pub record RanOut (kind : Kind) (film : FilmData) (start : PathData) (nodes : ℕ) (ended : EndedData) : Type 0 where
  pub full : ended.held ≡ nodes
  pub fewer : nodes < candidate_count (rules_of kind film) start.paid
  pub reaches : ahead (rules_of kind film) (all_scenes film) ≤ ended.bound

-- the order keeps the pairs, pays the cost, and is no dearer than the start; the lines are justified, and the bound is
-- what they make known of all scenes, which no order pays less than; the lines are at most as many as there may be and
-- as candidates of the start, in all and of each set; and unless the search was cut short, the bound is the cost
pub record IsEnded (kind : Kind) (film : FilmData) (start : PathData) (nodes : ℕ) (ended : EndedData) : Type 0 where
  pub order : IsKeptOrder film ended.order
  pub cost : ended.cost ≡ pay_of film ended.order
  pub no_dearer : ended.cost ≤ start.paid
  pub lines : AreJustified (rules_of kind film) ended.lines
  pub bound : ended.bound ≡ known (rules_of kind film) ended.lines (all_scenes film)
  pub true_bound : IsLeast film ended.bound
  pub held : ended.held ≡ length ended.lines
  pub most : ended.held ≤ nodes
  pub candidates : ended.held ≤ candidate_count (rules_of kind film) start.paid
  pub sets : (set : ℕ) → count_by (λ line. line.set == set) ended.lines
      ≤ leaving_count (rules_of kind film) start.paid set
  pub spent : ended.spent ≡ true → RanOut kind film start nodes ended
  pub closed : ended.spent ≡ false → ended.bound ≡ ended.cost

-- it ended so, where the search began with a path that paid this much
abbrev pub EndsFrom : Kind → FilmData → ℕ → ℕ → EndedData → Type 0
EndsFrom kind film paid nodes ended = (start : PathData) → start.paid ≡ paid → IsEnded kind film start nodes ended
