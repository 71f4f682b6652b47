use Rattle.std.proofs.Common.{arith}
use Rattle.strip_film.proofs.Costs.{step_limit, steps_limit}
use Rattle.strip_film.proofs.Paths.{path_limit}
use Rattle.strip_film.proofs.laws.costs_stay_small.Goals as goal

pub returns-clause-step : goal.returns-clause-step
returns-clause-step c = λ film set scene is lies there. omega (arith, step_limit film set scene is lies there)

pub returns-clause-steps : goal.returns-clause-steps
returns-clause-steps c = λ film set scenes is lies remained.
    omega (arith, steps_limit film set scenes is lies remained)

pub returns-clause-paid : goal.returns-clause-paid
returns-clause-paid c = λ film path is within. omega (arith, path_limit film path within is)
