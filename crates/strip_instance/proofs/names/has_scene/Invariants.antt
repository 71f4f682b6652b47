use Rattle.std.proofs.Common.{◌≡◌, false, map, take}
use Rattle.strip_model.specs.Instance.{scene_data}
use Rattle.strip_instance.specs.Faults.{contains}
use Rattle.strip_instance.proofs.names.has_scene.Given as goal

abbrev pub invariant-loop-scene : goal.invariant-loop-scene
invariant-loop-scene l = contains (map (λ scene. scene.name) (map scene_data (take l.scene-index l.scenes))) l.name ≡ false
