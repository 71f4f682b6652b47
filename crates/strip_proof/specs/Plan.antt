-- A plan as plain data.
use Rattle.std.specs.Prelude.{ℕ, List}
use Rattle.strip_model.specs.declared.kind.Kind.{Kind}
use Rattle.strip_film.specs.declared.shared.Line.{Line}
use Rattle.strip_proof.specs.declared.plan.Status.{Status}
use Rattle.strip_proof.specs.declared.plan.Plan.{Plan}

-- an order of scenes and its cost, a bound on the cost of every order, how many lines the search had, and those
-- that prove the bound
pub record PlanData : Type 0 where
  pub status : Status
  pub kind : Kind
  pub cost : ℕ
  pub bound : ℕ
  pub held : ℕ
  pub order : List ℕ
  pub lines : List Line

abbrev pub plan_data : Plan → PlanData
plan_data plan = record {
  status = plan.status;
  kind = plan.kind;
  cost = plan.cost;
  bound = plan.bound;
  held = plan.held;
  order = plan.order.items;
  lines = plan.lines.items;
}
