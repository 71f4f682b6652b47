use Rattle.strip_film.specs.Shown.{path_data}
use Rattle.strip_film.proofs.Paths.{rest_lies}
use Rattle.strip_world.proofs.world.World.is_below.Goals as goal

pub bound-requires-clause-lies : goal.bound-requires-clause-lies
bound-requires-clause-lies g c = rw c.rest.ensures (rest_lies c.args.self.now.search.film (path_data c.args.path.now) c.requires.path)
