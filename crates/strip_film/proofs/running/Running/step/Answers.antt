use Rattle.strip_film.specs.Shown.{path_data}
use Rattle.strip_film.proofs.Located.{location_lies}
use Rattle.strip_film.proofs.Paths.{rest_lies}
use Rattle.strip_film.proofs.running.Running.step.Goals as goal

pub step_with-requires-clause-known : goal.step_with-requires-clause-known
step_with-requires-clause-known c = rest_lies c.args.film.now (path_data c.args.self.now.path) c.requires.running.path c.args.s c.requires.remains

pub step_with-requires-clause-actors : goal.step_with-requires-clause-actors
step_with-requires-clause-actors c = rw c.requires.running.on (location_lies c.args.film.now c.args.self.now.path.rest.0 c.keeps_limits.ensures)
