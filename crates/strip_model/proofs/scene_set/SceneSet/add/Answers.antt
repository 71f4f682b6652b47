use Rattle.std.proofs.Common.{arith}
use Rattle.strip_model.proofs.SceneSets.{has_scene-added}
use Rattle.strip_model.proofs.scene_set.SceneSet.add.Goals as goal

pub returns : goal.returns
returns c = λ other small. has_scene-added c.args.self.now.masks c.args.scene other c.with.result c.requires (omega arith) c.with.ensures
