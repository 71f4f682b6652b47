use Rattle.std.proofs.Common.{arith, subst}
use Rattle.strip_model.proofs.SceneSets.{AreUnited, united-all}
use Rattle.strip_model.proofs.scene_set.SceneSet.add_all.Goals as goal

pub returns : goal.returns
returns c = λ other small. united-all c.args.others.now c.args.self.now (record { masks = c.loop-place.mask-items }) other small
    (subst (λ place. AreUnited place c.args.others.now.masks c.args.self.now.masks c.loop-place.mask-items) (omega arith) c.loop-place.invariant)
