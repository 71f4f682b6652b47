-- Plans whose lines justify their bound.
use Rattle.std.specs.Prelude.{◌≡◌, ◌↔◌, ◌+◌, ◌≤◌}
use Rattle.strip_model.specs.declared.kind.Kind.{Kind}
use Rattle.strip_model.specs.Film.{FilmData}
use Rattle.strip_model.specs.Order.{IsKeptOrder}
use Rattle.strip_model.specs.Pay.{IsBestOrder, IsLeast, pay_of}
use Rattle.strip_film.specs.Film.{all_scenes}
use Rattle.strip_film.specs.Rules.{Rules}
use Rattle.strip_lines.specs.Lines.{AreJustified, known, rules_of}
use Rattle.strip_reduce.specs.Reduction.{reduced}
use Rattle.strip_proof.specs.declared.plan.Status.TheVariants.{Optimal}
use Rattle.strip_proof.specs.Plan.{PlanData}

-- what the lines of a plan of the film go by: the static bounds of a kind and the open firsts of the film's classes
abbrev pub class_rules : Kind → FilmData → Rules
class_rules kind film = rules_of kind (reduced film).film

-- a plan of the film whose lines justify its bound: its order keeps the pairs and pays the cost; each line lies in
-- the classes and is justified by the lines; what they make known of all classes, with what is set apart, reaches
-- the bound; and its status is optimal exactly where the bound is the cost
pub record IsAccepted (film : FilmData) (plan : PlanData) : Type 0 where
  pub order : IsKeptOrder film plan.order
  pub cost : plan.cost ≡ pay_of film plan.order
  pub justified : AreJustified (class_rules plan.kind film) plan.lines
  pub reaches : plan.bound ≤ (reduced film).apart
      + known (class_rules plan.kind film) plan.lines (all_scenes (reduced film).film)
  pub status : (plan.status ≡ Optimal) ↔ (plan.bound ≡ plan.cost)

-- what a plan says is true: no order that keeps the pairs pays less than its bound; its order is one that pays its
-- cost, which so is no less than the bound; and where its status is optimal, its order is a cheapest one
pub record IsTruePlan (film : FilmData) (plan : PlanData) : Type 0 where
  pub least : IsLeast film plan.bound
  pub order : IsKeptOrder film plan.order
  pub pays : pay_of film plan.order ≡ plan.cost
  pub no_more : plan.bound ≤ plan.cost
  pub best : plan.status ≡ Optimal → IsBestOrder film plan.order plan.cost
