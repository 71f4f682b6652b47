use Rattle.std.proofs.Common.{◌≡◌, ◌++◌, ℕ, get_or, map, sym, ap, ◌∙◌}
use Rattle.std.proofs.lemmas.List.{get_or-map}
use Rattle.std.proofs.lemmas.Simd.{map-map}
use Rattle.strip_text.specs.Rows.{csv_row, csv_text}
use Rattle.strip_model.specs.Data.{SceneData}
use Rattle.strip_model.specs.Instance.{scene_data}
use Rattle.strip_instance.specs.Arranged.{no_scene, scene_in}
use Rattle.strip_instance.specs.Canonical.{scene_fields}
use Rattle.strip_instance.proofs.back.Written.{next_piece, pieces}
use Rattle.strip_instance.proofs.arranging.write_in_order.Goals as goal

pub loop-scene-preserved : goal.loop-scene-preserved
loop-scene-preserved c =
    let scenes = c.args.scenes.now in
    let order = c.args.order.now in
    let piece = λ (scene : ℕ). csv_row (scene_fields c.args.actors (scene_in (map scene_data scenes) scene)) in
    let place = c.loop-scene.scene-index in
    let here = get_or order place 0 in
    let written : scene_data c.index-scenes-scene.result ≡ scene_in (map scene_data scenes) here
    = ap scene_data c.index-scenes-scene.is
    ∙ sym (get_or-map scene_data scenes here c.index-scenes-scene.result no_scene (c.requires.known place 0 c.loop-scene-test.true)) in
    c.in_ok-write_scene.ensures
    ∙ ap (λ (scene : SceneData). c.loop-scene.text ++ csv_row (scene_fields c.args.actors scene)) written
    ∙ ap (λ text. text ++ piece here) c.loop-scene.invariant
    ∙ next_piece piece c.args.text.now order place 0 c.loop-scene-test.true

pub returns : goal.returns
returns c =
    let piece = λ (scene : ℕ). scene_fields c.args.actors (scene_in (map scene_data c.args.scenes.now) scene) in
    c.loop-scene.invariant ∙ pieces piece c.args.text.now c.args.order.now c.loop-scene.scene-index c.loop-scene-test.false
    ∙ ap (λ rows. c.args.text.now ++ csv_text rows) (sym (map-map (scene_fields c.args.actors) (scene_in (map scene_data c.args.scenes.now)) c.args.order.now))
