use Rattle.std.proofs.Common.{take}
use Rattle.strip_instance.proofs.Least.{LeastOf}
use Rattle.strip_instance.proofs.way.next_scene.Given as goal

abbrev pub invariant-loop-pair : goal.invariant-loop-pair
invariant-loop-pair l = LeastOf (take l.pair-index l.pairs) l.steps l.scene l.next
