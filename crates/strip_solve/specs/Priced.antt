-- The plan of the order that a film's rows have.
use Rattle.std.specs.Prelude.{ℕ, ◌+◌, ◌==◌, if◌then◌else◌, []}
use Rattle.strip_model.specs.declared.kind.Kind.TheVariants.{Pairs}
use Rattle.strip_model.specs.Film.{FilmData}
use Rattle.strip_model.specs.Pay.{pay_of}
use Rattle.strip_film.specs.Film.{all_scenes}
use Rattle.strip_bound.specs.Bounds.{bound}
use Rattle.strip_reduce.specs.Reduction.{reduced}
use Rattle.strip_proof.specs.declared.plan.Status.{Status}
use Rattle.strip_proof.specs.declared.plan.Status.TheVariants.{Optimal, Bounded}
use Rattle.strip_proof.specs.Plan.{PlanData}
use Rattle.strip_solve.specs.Own.{own_order}

-- the static bound with pairs of all classes, with what is set apart
abbrev pub whole_bound : FilmData → ℕ
whole_bound film = bound Pairs (reduced film).film (all_scenes (reduced film).film) + (reduced film).apart

-- a plan is optimal where its bound is its cost
abbrev pub priced_status : ℕ → ℕ → Status
priced_status least cost = if least == cost then Optimal else Bounded

-- the order of the rows, what it costs, and this bound; no line was made
abbrev pub priced_plan : FilmData → PlanData
priced_plan film = record {
  status = priced_status (whole_bound film) (pay_of film (own_order film));
  kind = Pairs;
  cost = pay_of film (own_order film);
  bound = whole_bound film;
  held = 0;
  order = own_order film;
  lines = [];
}
