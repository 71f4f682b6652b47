use Rattle.strip_words.specs.Shown.{solve_data}
use Rattle.strip_answer.specs.Ending.{answer_text}
use Rattle.strip_commands.specs.Solve.{IsSolveAnswer}
use Rattle.strip_commands.proofs.Films.{film_due, film_is}
use Rattle.strip_commands.proofs.solve.solve.Goals as goal

pub solve_instance-requires-clause-said : goal.solve_instance-requires-clause-said
solve_instance-requires-clause-said g c = film_is c.as_str.result.now _ _ c.in_ok-inst.field-0 c.in-Said.inst c.in-Said.is c.in_ok-inst.ensures.given

pub returns-in_ok-solve_instance-in-Said-clause-due : goal.returns-in_ok-solve_instance-in-Said-clause-due
returns-in_ok-solve_instance-in-Said-clause-due g c =
    let job = solve_data c.args.job.now in
    let answer = c.in_ok-solve_instance-in-Said.field-0 in
    film_due (IsSolveAnswer job) job.file _ _ answer.status (answer_text answer) c.as_str.result.now c.in_ok-inst.field-0 c.in-Said.inst c.as_str.ensures.value
    c.in-Said.is c.in_ok-solve_instance-in-Said.ensures c.in_ok-inst.ensures.given
