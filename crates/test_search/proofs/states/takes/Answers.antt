use Rattle.std.proofs.Common.{sym, subst}
use Rattle.strip_film.specs.Film.{LiesIn}
use Rattle.strip_film.specs.Shown.{running_data}
use Rattle.test_search.proofs.states.takes.Goals as goal

pub ready-requires : goal.ready-requires
ready-requires c = subst (LiesIn c.args.film.now) (sym c.rest.ensures) (c.what_remains_lies_in_the_film.ensures c.args.film.now (running_data c.args.state.now).path c.requires.path)
