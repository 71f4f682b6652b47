use Rattle.std.proofs.Common.{take}
use Rattle.strip_model.specs.Order.{Keeps}
use Rattle.strip_model.proofs.pair.keeps.Given as goal

abbrev pub invariant-loop-pair : goal.invariant-loop-pair
invariant-loop-pair l = Keeps (take l.pair-index l.pairs) l.order
