use Rattle.strip_model.proofs.SceneSets.{AreUnited}
use Rattle.strip_model.proofs.scene_set.SceneSet.add_all.Given as goal

abbrev pub invariant-loop-place : goal.invariant-loop-place
invariant-loop-place l = AreUnited l.place l.others.masks l.fn.self.masks l.mask-items
