use Rattle.std.proofs.Common.{[], sym, ◌∙◌}
use Rattle.strip_text.proofs.Named.{value_at}
use Rattle.strip_model.specs.Data.{SceneData}
use Rattle.strip_model.specs.Instance.{scene_data}
use Rattle.strip_reports.proofs.summary.name_of.Goals as goal

pub returns : goal.returns
returns c =
    c.as_bytes.ensures.value
    ∙ sym (value_at scene_data (λ (scene : SceneData). scene.name) c.scenes.result.now c.args.inst.now.scenes c.args.scene
    c.index-scenes-scene.result [] c.scenes.ensures.scenes c.requires)
