use Rattle.std.proofs.Common.{arith}
use Rattle.strip_sets.proofs.Vectors.{sums_fit}
use Rattle.strip_sets.proofs.by_set.ArrayU324BySet.plus.Goals as goal

pub overflow_add-self : goal.overflow_add-self
overflow_add-self c = sums_fit c.args.self.now c.args.others.now c.told-self c.told-others (λ i lt. omega (arith, c.requires i lt))
