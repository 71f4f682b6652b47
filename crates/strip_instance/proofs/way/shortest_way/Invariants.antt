use Rattle.std.proofs.Common.{◌<◌, slice_index}
use Rattle.strip_instance.proofs.Nearer.{GoesOn}
use Rattle.strip_instance.proofs.way.shortest_way.Given as goal

abbrev pub invariant-loop-next : goal.invariant-loop-next
invariant-loop-next l = record {
  known : l.scene < 200;
  near : slice_index l.steps l.scene < 200;
  on : GoesOn l.pairs l.to l.from l.scene l.way.items;
}

abbrev pub decreases-loop-next : goal.decreases-loop-next
decreases-loop-next l = slice_index l.steps l.scene
