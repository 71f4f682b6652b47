use Rattle.std.proofs.Common.{subst}
use Rattle.strip_model.specs.FilmOf.{film_of}
use Rattle.strip_proof.specs.Plan.{plan_data}
use Rattle.strip_solve.specs.declared.options.SearchOptions.{SearchOptions}
use Rattle.strip_solve.specs.Solved.{IsSolvedBy}
use Rattle.strip_words.specs.Shown.{trial_data}
use Rattle.strip_commands.proofs.Printed.{chosen_accepted}
use Rattle.strip_commands.proofs.Tried.{trial_answer}
use Rattle.strip_commands.proofs.making.try_classes.Goals as goal

pub try_plan-requires-clause-accepted : goal.try_plan-requires-clause-accepted
try_plan-requires-clause-accepted g c =
    let options = c.options_of-options.result in
    let found = c.requires.solves.answers c.args.inst options _ _ c.in-Ok.ensures in
    chosen_accepted options.auto options.kind (film_of c.args.inst.now) options.nodes (plan_data c.in-Ok.plan) found.solved

pub returns-in-Ok : goal.returns-in-Ok
returns-in-Ok g c =
    let plan = plan_data c.in-Ok.plan in
    let found = c.requires.solves.answers c.args.inst c.options_of-options.result _ _ c.in-Ok.ensures in
    let solved = subst (λ (options : SearchOptions). IsSolvedBy options.auto options.kind (film_of c.args.inst.now) options.nodes plan) c.options_of-options.ensures.said found.solved in
    trial_answer (trial_data c.args.job.now) c.args.inst.now plan c.try_plan.result c.requires.made found.few
    solved c.try_plan.ensures.status c.try_plan.ensures.text
