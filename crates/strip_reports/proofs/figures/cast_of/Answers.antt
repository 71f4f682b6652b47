use Rattle.std.proofs.Common.{ℕ, length, ap, sym, subst}
use Rattle.strip_mask.specs.Set.{has}
use Rattle.strip_model.specs.Data.{IsScene}
use Rattle.strip_model.specs.Instance.{scene_data}
use Rattle.strip_model.proofs.Scenes.{cast_at}
use Rattle.strip_text.proofs.Named.{seen_at}
use Rattle.strip_reports.proofs.figures.cast_of.Goals as goal

pub returns-clause-cast : goal.returns-clause-cast
returns-clause-cast c = λ actor. sym (ap (λ (cast : ℕ). has cast actor)
    (cast_at c.scenes.result.now c.args.inst.now.scenes c.args.scene c.index-scenes-scene.result c.scenes.ensures.scenes c.requires))

pub returns-clause-lies : goal.returns-clause-lies
returns-clause-lies c =
    (subst (IsScene (length c.args.inst.now.actors))
    (seen_at scene_data c.scenes.result.now c.args.inst.now.scenes c.args.scene c.index-scenes-scene.result c.scenes.ensures.scenes c.requires)
    (c.scenes.ensures.limits.scenes c.args.scene (scene_data c.index-scenes-scene.result) c.requires)).cast
