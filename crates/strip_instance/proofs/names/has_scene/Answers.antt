use Rattle.std.proofs.Common.{◌≡◌, ◌<◌, map, length, get_or, arith, sym, ap, ◌∙◌, [], true}
use Rattle.std.specs.Str.{bytes_eq}
use Rattle.std.specs.String.{string_bytes}
use Rattle.std.proofs.lemmas.List.{length-map, get_or-map}
use Rattle.std.proofs.lemmas.Simd.{map-map}
use Rattle.strip_model.specs.declared.scene.Scene.{Scene}
use Rattle.strip_model.specs.Instance.{scene_data}
use Rattle.strip_instance.specs.Faults.{contains}
use Rattle.strip_instance.proofs.read.EarlierNames.{is_in}
use Rattle.strip_instance.proofs.names.has_scene.Goals as goal

pub returns-then-eq : goal.returns-then-eq
returns-then-eq c =
    let scenes = c.args.scenes.now in
    let k = c.loop-scene.scene-index in
    let name = c.args.name.now in
    let names = map (λ (scene : Scene). string_bytes scene.name) scenes in
    let within : k < length names = omega (arith, length-map scenes (λ (scene : Scene). string_bytes scene.name), c.loop-scene-test.true) in
    let here : get_or names k [] ≡ string_bytes c.scene-item.result.name
    = get_or-map (λ (scene : Scene). string_bytes scene.name) scenes k c.scene-item.result [] c.loop-scene-test.true
    ∙ ap (λ (scene : Scene). string_bytes scene.name) (sym c.scene-item.is) in
    let same : bytes_eq name (get_or names k []) ≡ true = ap (bytes_eq name) (here ∙ sym c.as_bytes.ensures.value) ∙ sym c.eq.ensures ∙ c.if-eq.true in
    sym (ap (λ list. contains list name) (map-map (λ scene. scene.name) scene_data scenes) ∙ is_in names k name within same)
