use Rattle.strip_film.specs.Shown.{path_data}
use Rattle.test_search.proofs.paths.who_is_there.Goals as goal

pub cast_of-requires : goal.cast_of-requires
cast_of-requires c = rw c.rest.ensures (c.what_remains_lies_in_the_film.ensures c.args.film.now (path_data c.args.path.now) c.requires)

pub on-requires : goal.on-requires
on-requires c = rw c.rest-2.ensures (c.what_remains_lies_in_the_film.ensures c.args.film.now (path_data c.args.path.now) c.requires)
