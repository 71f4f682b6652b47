use Rattle.std.proofs.Common.{◌≡◌, ◌<◌, [], get_or, length, map, arith, sym, ap, ◌∙◌, true, false}
use Rattle.std.specs.Str.{bytes_eq}
use borrow.Author.Count.{below_more}
use Rattle.strip_model.specs.Instance.{scene_data}
use Rattle.strip_text.proofs.Named.{value_at}
use Rattle.strip_proof.proofs.read.Scenes.{first_scene, there_is, there_is_none}
use Rattle.strip_proof.proofs.field.scene_of.Goals as goal

pub returns-then-eq : goal.returns-then-eq
returns-then-eq c =
    let inst = c.args.inst.now in
    let k = c.loop-scene.scene-index in
    let name = c.args.name.now in
    let within : k < length inst.scenes = omega (arith, c.loop-scene-test.true, c.scenes-scene-items.ensures.count) in
    let here = value_at scene_data (λ scene. scene.name) c.scenes-scene-items.result.now inst.scenes k c.scene-item.result [] c.scenes-scene-items.ensures.scenes within
    ∙ ap (λ scene. (scene_data scene).name) (sym c.scene-item.is) in
    let same : bytes_eq name (get_or (map (λ scene. scene.name) inst.scenes) k []) ≡ true
    = ap (bytes_eq name) (here ∙ sym c.as_bytes.ensures.value) ∙ sym c.eq.ensures ∙ c.if-eq.true in
    let is = first_scene inst name k within c.loop-scene.invariant.earlier same in
    (there_is inst name k within is, c.loop-scene.invariant.counted ∙ sym is)

pub loop-scene-preserved : goal.loop-scene-preserved
loop-scene-preserved c =
    let inst = c.args.inst.now in
    let k = c.loop-scene.scene-index in
    let name = c.args.name.now in
    let within : k < length inst.scenes = omega (arith, c.loop-scene-test.true, c.scenes-scene-items.ensures.count) in
    let here = value_at scene_data (λ scene. scene.name) c.scenes-scene-items.result.now inst.scenes k c.scene-item.result [] c.scenes-scene-items.ensures.scenes within
    ∙ ap (λ scene. (scene_data scene).name) (sym c.scene-item.is) in
    let differ : bytes_eq name (get_or (map (λ scene. scene.name) inst.scenes) k []) ≡ false
    = ap (bytes_eq name) (here ∙ sym c.as_bytes.ensures.value) ∙ sym c.eq.ensures ∙ c.if-eq.false in
    record {
      counted = omega (arith, c.loop-scene.invariant.counted);
      earlier = below_more _ _ c.loop-scene.invariant.earlier differ;
    }

pub returns : goal.returns
returns c =
    there_is_none c.args.inst.now c.args.name.now c.loop-scene.scene-index
    (omega (arith, c.loop-scene-test.false, c.loop-scene.auto.scene-index-end, c.scenes-scene-items.ensures.count)) c.loop-scene.invariant.earlier
