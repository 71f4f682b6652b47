use Rattle.strip_film.proofs.Lists.{ready_there}
use Rattle.strip_film.proofs.running.Running.take.Goals as goal

pub step-step-requires-clause-remains : goal.step-step-requires-clause-remains
step-step-requires-clause-remains c = ready_there c.args.film.now c.args.self.now.path.rest.0 c.args.s c.requires.ready
