use Rattle.std.proofs.Common.{arith}
use Rattle.strip_mask.specs.Set.{size}
use Rattle.strip_mask.proofs.Sizes.{ones_size}
use Rattle.strip_mask.proofs.mask.MaskIterIterator.size_hint.Goals as goal

pub returns-clause-lower : goal.returns-clause-lower
unfolding size
returns-clause-lower c = λ _. omega (arith, ones_size c.args.self.now.rest (omega arith))

pub returns-clause-upper : goal.returns-clause-upper
unfolding size
returns-clause-upper c = (tt, omega (arith, ones_size c.args.self.now.rest (omega arith)))

pub returns-clause-value : goal.returns-clause-value
unfolding size
returns-clause-value c = rw (ones_size c.args.self.now.rest (omega arith))
