use Rattle.strip_start.proofs.Small.{some_of_cast}
use Rattle.strip_start.proofs.scan.turn_cost.Goals as goal

pub wait_cost-requires-clause-actors : goal.wait_cost-requires-clause-actors
wait_cost-requires-clause-actors c = rw (c.meet-leaving.ensures, c.casts-casts.ensures) (some_of_cast c.args.film.now c.args.second c.minus.result.0 c.keeps_limits.ensures)

pub wait_cost-requires-2-clause-actors : goal.wait_cost-requires-2-clause-actors
wait_cost-requires-2-clause-actors c = rw (c.meet-coming.ensures, c.casts-casts.ensures) (some_of_cast c.args.film.now c.args.first c.minus-2.result.0 c.keeps_limits.ensures)
