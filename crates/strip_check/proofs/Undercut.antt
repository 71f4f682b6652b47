-- What an accepted plan says is true.
use Rattle.std.proofs.Common.{◌≤◌, ℕ, length, sym, arith}
use Rattle.strip_model.specs.Film.{FilmData}
use Rattle.strip_model.specs.Pay.{IsLeast, IsOptimum}
use Rattle.strip_film.specs.Film.{IsFilm, IsFilmUpTo, all_scenes}
use Rattle.strip_film.specs.Finish.{IsAtMostFinish, IsFinish}
use Rattle.strip_lines.specs.Lines.{known}
use Rattle.strip_reduce.specs.Law.{StandsFor}
use Rattle.strip_reduce.specs.Reduction.{reduced}
use Rattle.strip_proof.specs.Plan.{PlanData}
use Rattle.strip_check.specs.Accepted.{IsAccepted, IsTruePlan, class_rules}

-- a film of at most 64 classes
pub few_classes : (film : FilmData) → IsFilmUpTo 200 film → length film.casts ≤ 64 → IsFilm film
few_classes film is few = record {
  scene_count = (is.scene_count.0, few);
  day_count = is.day_count;
  actor_count = is.actor_count;
  hold_count = is.hold_count;
  some_days = is.some_days;
  day_sum = is.day_sum;
  rate_sum = is.rate_sum;
  hold_sum = is.hold_sum;
  casts = is.casts;
  pairs = is.pairs;
}

module _ (film : FilmData) (plan : PlanData) (stands : StandsFor film (reduced film)) (is : IsAccepted film plan) (cost : ℕ)
    (optimum : IsOptimum (reduced film).film cost)
    (below : known (class_rules plan.kind film) plan.lines (all_scenes (reduced film).film) ≤ cost) where
  least : IsLeast film plan.bound
  least order kept = omega (arith, is.reaches, below, ((stands.optimum cost).0 optimum).least order kept)

  pub true_plan : IsTruePlan film plan
  true_plan = record {
    least = least;
    order = is.order;
    pays = sym is.cost;
    no_more = omega (arith, least plan.order is.order, is.cost);
    best = λ optimal. record {
      is_kept = is.order;
      pays = sym is.cost;
      least = λ order kept. (let same = is.status.0 optimal in omega (arith, same, least order kept));
    };
  }

-- a bound on the cost of finishing is at most that cost
pub below_finish : (film : FilmData) (set cost bound : ℕ) → IsFinish film set cost → IsAtMostFinish film set bound → bound ≤ cost
below_finish film set cost bound is most = omega (arith, is.attained.2, most is.attained.0 is.attained.1)
