-- The end of a search with the lines that its bound needs.
use Rattle.std.specs.Prelude.{◌≡◌, ◌≢◌, ℕ, ◌<◌, ◌≤◌, Option, None, Some, List, [], Vec, IfSome, min}
use Rattle.std.specs.declared.alloc.Global.{Global}
use Rattle.strip_model.specs.declared.kind.Kind.{Kind}
use Rattle.strip_model.specs.Film.{FilmData}
use Rattle.strip_model.specs.Order.{IsKeptOrder}
use Rattle.strip_model.specs.Pay.{pay_of}
use Rattle.strip_film.specs.declared.shared.Line.{Line}
use Rattle.strip_film.specs.Path.{PathData}
use Rattle.strip_film.specs.Shown.{path_data}
use Rattle.strip_lines.specs.Lines.{rules_of}
use Rattle.strip_trim.specs.Trimmed.{AreTrimmed}
use Rattle.strip_lines.specs.Ended.{EndedData, IsEnded, ended_data}
use Rattle.strip_proof.specs.declared.plan.Status.{Status}
use Rattle.strip_proof.specs.declared.plan.Status.TheVariants.{Optimal, Bounded}
use Rattle.strip_reduce.specs.Oriented.{oriented}
use Rattle.strip_reduce.specs.State.{way_back}
use Rattle.strip_solve.specs.declared.own.Own.{Own}
use Rattle.strip_solve.specs.declared.plan.Searched.{Searched}
use Rattle.strip_solve.specs.Solved.{IsVaried}

-- lines are trimmed exactly where the bound is the lesser of the cost and of what the order of the rows costs
abbrev pub IsTrimmed : Kind → FilmData → ℕ → EndedData → Option (Vec Line Global) → Type 0
IsTrimmed kind film own ended (Some lines) = (ended.bound ≡ min ended.cost own)
    × AreTrimmed (rules_of kind film) ended.lines lines.items
IsTrimmed kind film own ended None = ended.bound ≢ min ended.cost own

-- the search of a film began with a path that varying the start gave, and ended as a search that begins with it
pub record IsSearchedFrom (kind : Kind) (film : FilmData) (start : PathData) (most own : ℕ) (searched : Searched) : Type 0 where
  pub is_varied : IsVaried film start (path_data searched.begun)
  pub ended : IsEnded kind film (path_data searched.begun) most (ended_data searched.ended)
  pub trimmed : IsTrimmed kind film own (ended_data searched.ended) searched.trimmed

-- the status and the lines of a plan, by whether lines were trimmed
abbrev pub IsProofOf : Option (Vec Line Global) → List Line → Status → List Line → Type 0
IsProofOf (Some trimmed) found status lines = (status ≡ Optimal) × (lines ≡ trimmed.items)
IsProofOf None found status lines = (status ≡ Bounded) × (lines ≡ found)

-- an optimal plan has trimmed lines
abbrev pub IsStatusOf : Option (Vec Line Global) → Status → Type 0
IsStatusOf (Some lines) status = status ≡ Optimal
IsStatusOf None status = status ≡ Bounded

-- the order of the rows, which is cheaper than the one that was found
pub record IsRows (own : Option Own) (cost : ℕ) (order : List ℕ) (least : ℕ) : Type 0 where
  pub rows : Own
  pub same : own ≡ Some rows
  pub cheaper : rows.cost < cost
  pub taken : order ≡ rows.order.items
  pub costs : least ≡ rows.cost

-- the order of the classes that was found, or its reverse, as the scenes that they stand for; the rows' is no cheaper
pub record IsFound (film : FilmData) (members : List (List ℕ)) (found : List ℕ) (own : Option Own) (cost : ℕ) (order : List ℕ) (least : ℕ)
    : Type 0 where
  pub classes : List ℕ
  pub kept : IsKeptOrder film classes
  pub pays : pay_of film classes ≡ pay_of film found
  pub turned : film.pairs ≡ [] → classes ≡ oriented classes
  pub stands : order ≡ way_back members classes
  pub costs : least ≡ cost
  pub no_dearer : IfSome own (λ rows. cost ≤ rows.cost)
