use Rattle.strip_model.proofs.SceneSets.{has_scene-empty}
use Rattle.strip_model.proofs.scene_set.SceneSet.new.Goals as goal

pub returns : goal.returns
returns c = has_scene-empty
