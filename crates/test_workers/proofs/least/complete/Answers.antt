use Rattle.strip_film.specs.Shown.{path_data}
use Rattle.test_workers.proofs.least.complete.Goals as goal

pub ready-requires : goal.ready-requires
ready-requires c = rw c.rest.ensures (c.what_remains_lies_in_the_film.ensures c.args.film.now (path_data c.loop-scene.path) c.loop-scene.invariant)
