use Rattle.std.proofs.Common.{slice_index, arith}
use Rattle.strip_film.proofs.Costs.{rate_limit}
use Rattle.strip_bound.proofs.Small.{weight_small}
use Rattle.strip_bound.proofs.tables.weights_of.Goals as goal

pub sum_over-requires-clause-fits : goal.sum_over-requires-clause-fits
sum_over-requires-clause-fits c = rw c.rates-rates.ensures
    (omega (arith, rate_limit c.args.film.now (slice_index c.casts-casts.result.now c.loop-scene.scene) c.keeps_limits.ensures))

pub overflow_mul-days : goal.overflow_mul-days
overflow_mul-days c = rw (c.sum_over.ensures, c.days-days.ensures, c.rates-rates.ensures)
    (omega (arith, weight_small c.args.film.now c.loop-scene.scene (slice_index c.casts-casts.result.now c.loop-scene.scene) c.keeps_limits.ensures))
