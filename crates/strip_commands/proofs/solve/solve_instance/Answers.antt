use Rattle.std.proofs.Common.{subst}
use Rattle.strip_model.specs.FilmOf.{film_of}
use Rattle.strip_proof.specs.Plan.{plan_data}
use Rattle.strip_solve.specs.declared.options.SearchOptions.{SearchOptions}
use Rattle.strip_solve.specs.Solved.{IsSolvedBy}
use Rattle.strip_words.specs.Shown.{solve_data}
use Rattle.strip_commands.proofs.Printed.{plan_answer}
use Rattle.strip_commands.proofs.solve.solve_instance.Goals as goal

pub returns-in-Ok : goal.returns-in-Ok
returns-in-Ok g c =
    let plan = plan_data c.in-Ok.plan in
    let found = c.requires.solves.answers c.args.inst c.options_for.result _ _ c.in-Ok.ensures in
    let solved = subst (λ (options : SearchOptions). IsSolvedBy options.auto options.kind (film_of c.args.inst.now) options.nodes plan) c.options_for.ensures.said found.solved in
    plan_answer (solve_data c.args.job.now) c.args.inst.now plan c.answer_plan.result c.requires.said
    found.few solved found.readable c.written_plans_read_back.ensures.whole c.answer_plan.ensures.status c.answer_plan.ensures.text
