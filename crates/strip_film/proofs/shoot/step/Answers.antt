use Rattle.strip_film.proofs.Located.{location_lies}
use Rattle.strip_film.proofs.shoot.step.Goals as goal

pub step_with-requires-clause-known : goal.step_with-requires-clause-known
step_with-requires-clause-known c = c.requires.lies c.args.s c.requires.remains

pub step_with-requires-clause-actors : goal.step_with-requires-clause-actors
step_with-requires-clause-actors c = rw c.on.ensures (location_lies c.args.film.now c.args.q.0 c.keeps_limits.ensures)
