use Rattle.std.proofs.Common.{ap}
use Rattle.strip_film.specs.Path.{PathData}
use Rattle.strip_film.specs.Shown.{path_data}
use Rattle.test_search.proofs.Search.{first_of_all, optimum_of_all}
use Rattle.test_search.proofs.cheapest.cheapest_order.Goals as goal

pub returns-clause-first : goal.returns-clause-first
returns-clause-first c =
    first_of_all c.args.film.now (path_data c.start.result).scenes (ap (λ (path : PathData). path.scenes) c.start.ensures.start)
    c.cheapest_from.result c.cheapest_from.ensures.first

pub returns-clause-optimum : goal.returns-clause-optimum
returns-clause-optimum c =
    optimum_of_all c.args.film.now (path_data c.start.result).scenes (ap (λ (path : PathData). path.scenes) c.start.ensures.start)
    c.cheapest_from.result c.cheapest_from.ensures.first c.cheapest_from.ensures.pay
