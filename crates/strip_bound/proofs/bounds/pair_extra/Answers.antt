use Rattle.std.proofs.Common.{◌*◌, min, slice_index, ◌∙◌, arith}
use Rattle.strip_bound.proofs.Small.{wait_small}
use Rattle.strip_bound.proofs.bounds.pair_extra.Goals as goal

pub overflow_mul-a_waits : goal.overflow_mul-a_waits
overflow_mul-a_waits c = rw c.holds-holds.ensures (omega (
  arith,
  wait_small c.args.film.now c.args.a c.days_apart.result c.keeps_limits.ensures (omega (arith, c.requires.first, c.keeps_limits.ensures.actor_count)) c.days_apart.ensures.small,
))

pub overflow_mul-b_waits : goal.overflow_mul-b_waits
overflow_mul-b_waits c = rw c.holds-holds.ensures (omega (
  arith,
  wait_small c.args.film.now c.args.b c.days_apart-2.result c.keeps_limits.ensures (omega (arith, c.requires.second, c.keeps_limits.ensures.actor_count)) c.days_apart-2.ensures.small,
))

pub returns : goal.returns
returns c = c.min.ensures ∙ (λ i. min (slice_index (c.holds-holds.ensures i) c.args.a * c.days_apart.ensures.days i) (slice_index (c.holds-holds.ensures i) c.args.b * c.days_apart-2.ensures.days i))
