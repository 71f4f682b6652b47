use Rattle.strip_reports.proofs.Broken.{told_breaks}
use Rattle.strip_reports.proofs.summary.breaks.Goals as goal

pub returns-then-scene-pair : goal.returns-then-scene-pair
returns-then-scene-pair c =
    told_breaks c.args.order.now c.args.pair.now c.loop-place.place c.stands_in.result c.loop-place-test.true c.if-scene-pair.true c.loop-place.invariant
    c.stands_in.ensures
