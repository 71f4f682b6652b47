use Rattle.std.proofs.Common.{◌≡◌, ◌∷◌, take, map, codes}
use Rattle.strip_model.specs.Data.{scene_name}
use Rattle.strip_proof.proofs.head.push_order.Given as goal

abbrev pub invariant-loop-scene : goal.invariant-loop-scene
invariant-loop-scene l =
    map (λ field. field.now) l.fields.items ≡ codes "order" ∷ map (scene_name l.inst) (take l.scene-index l.order)
