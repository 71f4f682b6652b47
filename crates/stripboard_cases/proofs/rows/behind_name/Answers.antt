use Rattle.stripboard_cases.proofs.Fronts.{rest_behind}
use Rattle.stripboard_cases.proofs.rows.behind_name.Goals as goal

pub loop-first-preserved : goal.loop-first-preserved
loop-first-preserved c =
    rest_behind c.args.text.now c.loop-first.rest.now c.in-Some.first.now c.in-Some.behind.now c.loop-first.invariant c.in-Some.ensures
