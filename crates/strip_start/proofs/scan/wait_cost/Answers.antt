use Rattle.std.proofs.Common.{length, arith}
use Rattle.strip_mask.proofs.Below.{LiesBelow-minus}
use Rattle.strip_film.proofs.Costs.{hold_limit}
use Rattle.std.proofs.Common.{slice_index}
use Rattle.strip_start.proofs.Small.{wait_small}
use Rattle.strip_start.proofs.scan.wait_cost.Goals as goal

pub sum_over-requires-clause-within : goal.sum_over-requires-clause-within
sum_over-requires-clause-within c = rw (c.holds.ensures, c.keeps_limits.ensures.hold_count, c.minus-waiting.ensures, c.casts.ensures)
    (LiesBelow-minus (length c.args.film.now.rates) c.args.actors.0 (slice_index c.args.film.now.casts c.args.scene) c.requires.actors)

pub sum_over-requires-clause-fits : goal.sum_over-requires-clause-fits
sum_over-requires-clause-fits c = rw c.holds.ensures (omega (arith, hold_limit c.args.film.now c.minus-waiting.result.0 c.keeps_limits.ensures))

pub overflow_mul-result : goal.overflow_mul-result
overflow_mul-result c = rw (c.sum_over.ensures, c.minus-waiting.ensures, c.casts.ensures, c.holds.ensures, c.days.ensures)
    (omega (arith, wait_small c.args.film.now c.args.actors.0 c.args.scene c.keeps_limits.ensures c.requires.scene))

pub returns-clause-small : goal.returns-clause-small
returns-clause-small c = rw (c.sum_over.ensures, c.minus-waiting.ensures, c.casts.ensures, c.holds.ensures, c.days.ensures)
    (wait_small c.args.film.now c.args.actors.0 c.args.scene c.keeps_limits.ensures c.requires.scene)
