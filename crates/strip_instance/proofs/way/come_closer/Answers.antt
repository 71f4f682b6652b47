use Rattle.strip_model.specs.declared.pair.Pair.{Pair}
use Rattle.strip_instance.proofs.Closer.{so_far-lowered, so_far-same}
use Rattle.strip_instance.proofs.way.come_closer.Goals as goal
use Rattle.strip_instance.proofs.way.come_closer.Goals.{then-count-steps, else-count-steps}

abbrev none : Pair
none = record { first = 0; then = 0 }

pub loop-pair-preserved : goal.loop-pair-preserved
loop-pair-preserved c = elim c.if-count-steps.branch [
  | then-count-steps w ↦ rw (w.steps-is, w.closer-is) (so_far-lowered c.args.pairs.now c.args.steps.now c.loop-pair.steps c.loop-pair.closer c.loop-pair.pair-index none
      c.loop-pair-test.true c.loop-pair.invariant c.requires.known w.if-count-steps.true)
  | else-count-steps w ↦ rw (w.steps-is, w.closer-is) (so_far-same c.args.pairs.now c.args.steps.now c.loop-pair.steps c.loop-pair.closer c.loop-pair.pair-index none
      c.loop-pair-test.true c.loop-pair.invariant w.if-count-steps.false)
]
