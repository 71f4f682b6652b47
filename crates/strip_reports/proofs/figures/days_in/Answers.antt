use Rattle.std.proofs.Common.{sym, length}
use Rattle.strip_model.proofs.Scenes.{days_at, few_days}
use Rattle.strip_reports.proofs.figures.days_in.Goals as goal

pub returns-clause-days : goal.returns-clause-days
returns-clause-days c =
    sym (days_at c.scenes.result.now c.args.inst.now.scenes c.args.scene c.index-scenes-scene.result c.scenes.ensures.scenes c.requires)

pub returns-clause-small : goal.returns-clause-small
returns-clause-small c =
    few_days (length c.args.inst.now.actors) c.scenes.result.now c.args.inst.now.scenes c.args.scene c.index-scenes-scene.result
    c.scenes.ensures.scenes c.requires c.scenes.ensures.limits.scenes
