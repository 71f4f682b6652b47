use Rattle.std.proofs.Common.{◌+◌, take, sym, subst}
use Rattle.strip_model.specs.declared.pair.Pair.{Pair}
use Rattle.strip_model.proofs.Fits.{never_both}
use Rattle.strip_instance.proofs.Least.{LeastOf, least-more, least-same}
use Rattle.strip_instance.proofs.way.next_scene.Goals as goal
use Rattle.strip_instance.proofs.way.next_scene.Goals.{then-nears, else-nears}

abbrev none : Pair
none = record { first = 0; then = 0 }

pub loop-pair-preserved : goal.loop-pair-preserved
loop-pair-preserved c = elim c.if-nears.branch [
  | then-nears w ↦ (let nearer = c.nears.ensures.0 w.if-nears.true in
      subst (LeastOf (take (c.loop-pair.pair-index + 1) c.args.pairs.now) c.args.steps.now c.args.scene) (sym w.next-is)
      (least-more c.args.pairs.now c.args.steps.now c.args.scene c.loop-pair.pair-index none c.loop-pair-test.true nearer.0 nearer.1
      c.loop-pair.next w.lesser.result c.loop-pair.invariant w.lesser.ensures.least w.lesser.ensures.among))
  | else-nears w ↦ subst (LeastOf (take (c.loop-pair.pair-index + 1) c.args.pairs.now) c.args.steps.now c.args.scene) (sym w.next-is)
      (least-same c.args.pairs.now c.args.steps.now c.args.scene c.loop-pair.pair-index none c.loop-pair-test.true
      (λ nearer. never_both c.nears.result (c.nears.ensures.1 nearer) w.if-nears.false) c.loop-pair.next c.loop-pair.invariant)
]
