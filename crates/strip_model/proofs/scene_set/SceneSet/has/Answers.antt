use Rattle.std.proofs.Common.{sym, ◌∙◌}
use Rattle.strip_model.proofs.SceneSets.{has_scene-is}
use Rattle.strip_model.proofs.scene_set.SceneSet.has.Goals as goal

pub returns : goal.returns
returns c = c.has.ensures ∙ sym (has_scene-is c.args.self.now c.args.scene)
