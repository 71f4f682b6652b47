use Rattle.strip_film.specs.Shown.{path_data}
use Rattle.strip_film.proofs.Paths.{rest_lies, there}
use Rattle.strip_film.proofs.path.Path.extend.Goals as goal

pub step-requires-clause-lies : goal.step-requires-clause-lies
step-requires-clause-lies c = rest_lies c.args.film.now (path_data c.args.self.now) c.requires.path

pub step-requires-clause-remains : goal.step-requires-clause-remains
step-requires-clause-remains c = there c.args.film.now (path_data c.args.self.now) c.requires.path c.keeps_limits.ensures c.args.s c.requires.ready
