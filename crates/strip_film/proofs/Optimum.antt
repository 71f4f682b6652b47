-- The optimum is the cost of finishing everything.
use Rattle.std.proofs.Common.{◌≡◌, ℕ, ◌≤◌, List, sym, ◌∙◌, subst}
use Rattle.strip_model.specs.Film.{FilmData}
use Rattle.strip_model.specs.Pay.{IsOptimum, pay_of}
use Rattle.strip_film.specs.Film.{IsFilm, all_scenes}
use Rattle.strip_film.specs.Finish.{EachOnce, IsFinish, steps_cost}
use Rattle.strip_film.proofs.Lists.{AllOnce-from_ready}
use Rattle.strip_film.proofs.Orders.{kept_from_ready, ready_from_order}
use Rattle.strip_film.proofs.StepSum.{steps_are_pay}

module _ (film : FilmData) (is : IsFilm film) where
  -- along a list of ready scenes the steps are the pay
  ready_pay : (order : List ℕ) → EachOnce film (all_scenes film) order → steps_cost film (all_scenes film) order ≡ pay_of film order
  ready_pay order each = steps_are_pay film is order (AllOnce-from_ready film (all_scenes film) order each)

  pub optimum_from_finish : (cost : ℕ) → IsFinish film (all_scenes film) cost → IsOptimum film cost
  optimum_from_finish cost finish = record {
    attained = (
      finish.attained.0,
      kept_from_ready film is finish.attained.0 finish.attained.1,
      sym (ready_pay finish.attained.0 finish.attained.1) ∙ finish.attained.2,
    );
    least = λ order kept.
        let each : EachOnce film (all_scenes film) order = ready_from_order film is order kept in
        subst (λ (pay : ℕ). cost ≤ pay) (ready_pay order each) (finish.least order each);
  }

  pub finish_from_optimum : (pay : ℕ) → IsOptimum film pay → IsFinish film (all_scenes film) pay
  finish_from_optimum pay optimum =
      let each : EachOnce film (all_scenes film) optimum.attained.0 = ready_from_order film is optimum.attained.0 optimum.attained.1 in
      record {
        attained = (optimum.attained.0, each, ready_pay optimum.attained.0 each ∙ optimum.attained.2);
        least = λ scenes once.
            subst (λ (n : ℕ). pay ≤ n) (sym (ready_pay scenes once)) (optimum.least scenes (kept_from_ready film is scenes once));
      }
