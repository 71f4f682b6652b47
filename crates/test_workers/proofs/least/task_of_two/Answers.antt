use Rattle.strip_film.specs.Shown.{path_data}
use Rattle.test_workers.proofs.least.task_of_two.Goals as goal

pub ready-requires : goal.ready-requires
ready-requires c = rw c.rest.ensures (c.what_remains_lies_in_the_film.ensures c.args.film.now (path_data c.start-start.result) c.start-start.ensures.path)

pub ready-requires-2 : goal.ready-requires-2
ready-requires-2 c = rw c.rest-2.ensures (c.what_remains_lies_in_the_film.ensures c.args.film.now (path_data c.extend-one.result) c.extend-one.ensures.path)
