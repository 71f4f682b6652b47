use Rattle.stripboard_cases.specs.AtHand.{IsGiven}
use Rattle.stripboard_cases.proofs.Turns.{turn_more}
use Rattle.stripboard_cases.proofs.running.give_all.Goals as goal

pub loop-given-preserved : goal.loop-given-preserved
loop-given-preserved c = turn_more IsGiven c.args.all.now c.loop-given.given-index c.given-item.result c.args.files.now.items c.loop-given.files.items c.give.new.files.items
    c.loop-given-test.true c.given-item.is c.loop-given.invariant (c.give.ensures (cc))
