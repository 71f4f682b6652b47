use Rattle.strip_film.specs.Shown.{path_data}
use Rattle.test_search.proofs.paths.ready_after.Goals as goal

pub ready-requires : goal.ready-requires
ready-requires c = rw c.rest.ensures (c.what_remains_lies_in_the_film.ensures c.args.film.now (path_data c.in_ok-path.path) c.in_ok-path.ensures)
