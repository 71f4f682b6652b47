use Rattle.std.proofs.Common.{◌++◌, map, arith, refl, ap, ◌∙◌}
use Rattle.std.proofs.lemmas.List.{length-map}
use Rattle.strip_text.specs.Rows.{csv_row}
use Rattle.strip_model.specs.Data.{SceneData}
use Rattle.strip_model.specs.Instance.{scene_data}
use Rattle.strip_instance.specs.Canonical.{scene_fields}
use Rattle.strip_instance.proofs.back.Written.{piece_next, pieces}
use Rattle.strip_instance.proofs.writing.write_scenes.Goals as goal

pub loop-scene-preserved : goal.loop-scene-preserved
loop-scene-preserved c =
    let scenes = c.args.scenes.now in
    let piece = λ (scene : SceneData). csv_row (scene_fields c.args.actors scene) in
    c.in_ok-write_scene.ensures
    ∙ ap (λ text. text ++ piece (scene_data c.scene-item.result)) c.loop-scene.invariant
    ∙ piece_next scene_data piece c.args.text.now scenes (map scene_data scenes) c.loop-scene.scene-index c.scene-item.result refl c.loop-scene-test.true c.scene-item.is

pub returns : goal.returns
returns c =
    let seen = map scene_data c.args.scenes.now in
    c.loop-scene.invariant ∙ pieces (scene_fields c.args.actors) c.args.text.now seen c.loop-scene.scene-index (omega (arith, c.loop-scene-test.false, length-map c.args.scenes.now scene_data))
