use Rattle.std.proofs.Common.{rules, take}
use Rattle.stripboard_cases.specs.Runs.{IsDone}
use Rattle.stripboard_cases.proofs.Turns.{apart_all_done, turn_more}
use Rattle.stripboard_cases.proofs.running.do_all.Goals as goal

pub do_action-requires : goal.do_action-requires
do_action-requires g c = (search rules, apart_all_done (take c.loop-action.action-index c.args.actions.now) c.args.files.now.items c.loop-action.files.items c.requires c.loop-action.invariant)

pub loop-action-preserved : goal.loop-action-preserved
loop-action-preserved g c = turn_more IsDone c.args.actions.now c.loop-action.action-index c.action-item.result c.args.files.now.items c.loop-action.files.items c.do_action.new.files.items
    c.loop-action-test.true c.action-item.is c.loop-action.invariant (c.do_action.ensures (cc))
