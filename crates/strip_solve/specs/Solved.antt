-- A plan that a search of an instance's classes found.
use Rattle.std.specs.Prelude.{◌≡◌, ◌⊎◌, ℕ, ◌+◌, ◌*◌, ◌<◌, ◌≤◌, ◌==◌, Bool, true, false, List, [], length, count_by, min}
use Rattle.strip_model.specs.declared.kind.Kind.{Kind}
use Rattle.strip_model.specs.declared.kind.Kind.TheVariants.{Pairs, Arrivals}
use Rattle.strip_model.specs.Film.{FilmData}
use Rattle.strip_model.specs.Order.{IsKeptOrder}
use Rattle.strip_model.specs.Pay.{IsLeast, pay_of}
use Rattle.strip_film.specs.declared.shared.Line.{Line}
use Rattle.strip_film.specs.Film.{all_scenes}
use Rattle.strip_film.specs.Path.{PathData, IsComplete}
use Rattle.strip_film.specs.Rules.{Rules}
use Rattle.strip_lines.specs.Lines.{AreJustified, ahead, known}
use Rattle.strip_lines.specs.Paths.{factorial, candidate_count, leaving_count}
use Rattle.strip_reduce.specs.Oriented.{oriented}
use Rattle.strip_reduce.specs.Reduction.{reduced}
use Rattle.strip_reduce.specs.State.{way_back}
use Rattle.strip_trim.specs.Trimmed.{AreTrimmed}
use Rattle.strip_start.specs.Greedy.{IsGreedy}
use Rattle.strip_start.specs.Moves.{IsImproved}
use Rattle.strip_proof.specs.declared.plan.Status.{Status}
use Rattle.strip_proof.specs.declared.plan.Status.TheVariants.{Optimal, Bounded}
use Rattle.strip_proof.specs.Plan.{PlanData}
use Rattle.strip_check.specs.Accepted.{class_rules}
use Rattle.strip_solve.specs.Own.{own_order}

-- the path that a search of the film starts with: the greedy one, improved by moves
pub record IsStart (film : FilmData) (start : PathData) : Type 0 where
  pub complete : IsComplete film start
  pub greedy : List ℕ
  pub is_greedy : IsGreedy film greedy
  pub improved : IsImproved film greedy start.scenes

-- the path that the search begins with: one that varying the start gave, no dearer than it
pub record IsVaried (film : FilmData) (start varied : PathData) : Type 0 where
  pub complete : IsComplete film varied
  pub no_dearer : varied.paid ≤ start.paid

-- the lines that prove a bound, of those that a search held: all of them, or where the bound is the cost those that
-- the bound needs
abbrev pub AreRows : Rules → Status → List Line → List Line → Type 0
AreRows rules Optimal found lines = AreTrimmed rules found lines
AreRows rules Bounded found lines = lines ≡ found

-- the lines are those that the bound needs of as many as were held; they are justified, and what they make known of
-- all classes, with what is set apart, reaches the bound; and as many as were held are at most the candidates of
-- the path that the search began with, as are the lines of each set
pub record AreProof (kind : Kind) (film : FilmData) (begun : PathData) (plan : PlanData) : Type 0 where
  pub found : List Line
  pub held : plan.held ≡ length found
  pub rows : AreRows (class_rules kind film) plan.status found plan.lines
  pub justified : AreJustified (class_rules kind film) plan.lines
  pub reaches : plan.bound ≤ known (class_rules kind film) plan.lines (all_scenes (reduced film).film)
      + (reduced film).apart
  pub few_rows : length plan.lines ≤ plan.held
  pub candidates : plan.held ≤ candidate_count (class_rules kind film) begun.paid
  pub sets : (set : ℕ) → count_by (λ line. line.set == set) plan.lines
      ≤ leaving_count (class_rules kind film) begun.paid set

-- the lines that there may be were all made, though there are fewer than candidates of the path that the search
-- began with, and so than twice the orders of the classes; and the bound is at least the look-ahead of all classes
-- with what is set apart
pub record RanOut (kind : Kind) (film : FilmData) (most : ℕ) (begun : PathData) (plan : PlanData) : Type 0 where
  pub below : plan.bound < plan.cost
  pub full : plan.held ≡ most
  pub fewer : most < candidate_count (class_rules kind film) begun.paid
  pub orders : most < 2 * factorial (length (reduced film).film.casts)
  pub ahead_reached : ahead (class_rules kind film) (all_scenes (reduced film).film) + (reduced film).apart ≤ plan.bound

-- an optimal plan's bound is its cost; else the lines ran out
abbrev pub Closes : Kind → FilmData → ℕ → PathData → PlanData → Status → Type 0
Closes kind film most begun plan Optimal = plan.bound ≡ plan.cost
Closes kind film most begun plan Bounded = RanOut kind film most begun plan

-- the order is one of the classes, each as the scenes that it stands for. Where no classes have to keep their
-- order, it is the one that is always chosen of it and its reverse
pub record IsOfClasses (film : FilmData) (order : List ℕ) : Type 0 where
  pub classes : List ℕ
  pub stands : order ≡ way_back (reduced film).members classes
  pub turned : (reduced film).film.pairs ≡ [] → classes ≡ oriented classes

-- a plan of the film by static bounds of this kind, and with this many lines at most: its order keeps the pairs and
-- pays the cost, which is no more than the path costs that varying the start gave, nor than the order of the rows if
-- that keeps the pairs; it is that order or one of the classes; no order that keeps the pairs pays less than the bound;
-- the lines prove it; and its status holds
pub record IsSolved (kind : Kind) (film : FilmData) (most : ℕ) (plan : PlanData) : Type 0 where
  pub same_kind : plan.kind ≡ kind
  pub order : IsKeptOrder film plan.order
  pub of_classes : IsOfClasses film plan.order ⊎ (plan.order ≡ own_order film)
  pub cost : plan.cost ≡ pay_of film plan.order
  pub bound : IsLeast film plan.bound
  pub few_lines : plan.held ≤ most
  pub start : PathData
  pub is_start : IsStart (reduced film).film start
  pub varied : PathData
  pub is_varied : IsVaried (reduced film).film start varied
  pub no_dearer : plan.cost ≤ varied.paid + (reduced film).apart
  pub own : IsKeptOrder film (own_order film) → plan.cost ≤ pay_of film (own_order film)
  pub proof : AreProof kind film varied plan
  pub closes : Closes kind film most varied plan plan.status

-- a plan of the film where the program chooses the bounds: by pairs and with 50,000 lines at most it is optimal; or it is
-- one by arrivals, with this many lines at most
abbrev pub IsChosen : FilmData → ℕ → PlanData → Type 0
IsChosen film most plan =
    (IsSolved Pairs film (min most 50000) plan × (plan.status ≡ Optimal)) ⊎ IsSolved Arrivals film most plan

-- a plan of the film, where the program chooses the bounds or they are of this kind
abbrev pub IsSolvedBy : Bool → Kind → FilmData → ℕ → PlanData → Type 0
IsSolvedBy true kind film most plan = IsChosen film most plan
IsSolvedBy false kind film most plan = IsSolved kind film most plan
