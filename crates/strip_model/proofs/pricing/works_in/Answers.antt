use Rattle.std.proofs.Common.{◌∙◌, sym, ap, ℕ}
use Rattle.strip_mask.specs.Set.{has}
use Rattle.strip_model.proofs.Scenes.{cast_at}
use Rattle.strip_model.proofs.pricing.works_in.Goals as goal

pub returns : goal.returns
returns c = c.has.ensures ∙ sym (ap (λ (cast : ℕ). has cast c.args.actor)
    (cast_at c.scenes.result.now c.args.inst.now.scenes c.args.scene c.index-scenes-scene.result c.scenes.ensures.scenes c.requires.scene))
