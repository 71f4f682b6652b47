use Rattle.std.proofs.Common.{arith}
use Rattle.strip_model.specs.declared.kind.Kind.TheVariants.{Groups}
use Rattle.strip_bound.proofs.Small.{bound_small}
use Rattle.strip_bound.proofs.bounds.groups.Goals as goal

pub overflow_add-result : goal.overflow_add-result
overflow_add-result c = rw (c.plain.ensures, c.extras_of_groups.ensures) (omega (arith, bound_small Groups c.args.film.now c.args.q.0 c.keeps_limits.ensures c.requires.lies))
