use Rattle.std.proofs.Common.{◌≡◌, ◌≤◌, ◌++◌, None, sym, ap, ◌∙◌}
use Rattle.strip_model.specs.Film.{FilmData}
use Rattle.strip_film.specs.Film.{IsFilmUpTo}
use Rattle.strip_model.specs.FilmOf.{film_of}
use Rattle.strip_reduce.specs.Reduction.{class_count}
use Rattle.strip_reduce.specs.State.{State}
use Rattle.strip_text.specs.Checks.{first_fault}
use Rattle.strip_proof.specs.Plan.{plan_data}
use Rattle.strip_check.specs.Reasons.{order_checks, plan_checks, proof_checks}
use Rattle.strip_check.proofs.Accepting.{accepts}
use Rattle.strip_check.proofs.checking.check.Goals as goal

pub returns-clause-accepted : goal.returns-clause-accepted
returns-clause-accepted c =
    let film : FilmData = film_of c.args.inst.now in
    let plan = plan_data c.args.plan.now in
    let limits : IsFilmUpTo 200 film = c.reductions_begin_within_the_limits.ensures.film c.args.inst.now c.keeps_limits.ensures in
    let found : c.in_ok-against.field-0 ≡ first_fault (plan_checks film plan)
    = c.in_ok-against.ensures ∙ ap (λ (state : State). first_fault (order_checks film plan ++ proof_checks state plan)) c.in_ok-reduced.ensures.classes in
    let exact = c.accepted_plans_pass_each_check.ensures film plan limits c.in_ok-reduced.ensures.few in (
      λ same. exact.0 (sym found ∙ (accepts c.in_ok-against.field-0).0 (sym c.verdict_by.ensures ∙ same)),
      λ is. c.verdict_by.ensures ∙ (accepts c.in_ok-against.field-0).1 (found ∙ exact.1 is),
    )

pub returns-clause-true_plan : goal.returns-clause-true_plan
returns-clause-true_plan c = λ same.
    (let film : FilmData = film_of c.args.inst.now in
    let plan = plan_data c.args.plan.now in
    let limits : IsFilmUpTo 200 film = c.reductions_begin_within_the_limits.ensures.film c.args.inst.now c.keeps_limits.ensures in
    let found : c.in_ok-against.field-0 ≡ first_fault (plan_checks film plan)
    = c.in_ok-against.ensures ∙ ap (λ (state : State). first_fault (order_checks film plan ++ proof_checks state plan)) c.in_ok-reduced.ensures.classes in
    let none : first_fault (plan_checks film plan) ≡ None = sym found ∙ (accepts c.in_ok-against.field-0).0 (sym c.verdict_by.ensures ∙ same) in
    let few : class_count film ≤ 64 = c.in_ok-reduced.ensures.few in
    c.no_order_undercuts_an_accepted_plan.ensures film plan limits few ((c.accepted_plans_pass_each_check.ensures film plan limits few).0 none))
