use Rattle.std.proofs.Common.{arith}
use Rattle.strip_model.specs.declared.kind.Kind.TheVariants.{Arrivals}
use Rattle.strip_bound.proofs.Small.{bound_small}
use Rattle.strip_bound.proofs.bounds.arrivals_reach.Goals as goal

pub overflow_add-result : goal.overflow_add-result
overflow_add-result c =
    omega (arith, c.plain-plain.ensures, c.extra_of_parties.ensures.most, bound_small Arrivals c.args.film.now c.args.q.0 c.keeps_limits.ensures c.requires.lies)
