use Rattle.std.proofs.Common.{take}
use Rattle.strip_instance.proofs.Closer.{SoFar}
use Rattle.strip_instance.proofs.way.come_closer.Given as goal

abbrev pub invariant-loop-pair : goal.invariant-loop-pair
invariant-loop-pair l = SoFar l.pairs (take l.pair-index l.pairs) l.fn.steps l.steps l.closer
