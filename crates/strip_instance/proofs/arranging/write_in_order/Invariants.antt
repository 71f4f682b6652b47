use Rattle.std.proofs.Common.{◌≡◌, ◌++◌, map, take}
use Rattle.std.specs.List.{flat_map}
use Rattle.strip_text.specs.Rows.{csv_row}
use Rattle.strip_model.specs.Instance.{scene_data}
use Rattle.strip_instance.specs.Arranged.{scene_in}
use Rattle.strip_instance.specs.Canonical.{scene_fields}
use Rattle.strip_instance.proofs.arranging.write_in_order.Given as goal

abbrev pub invariant-loop-scene : goal.invariant-loop-scene
invariant-loop-scene l =
    l.text ≡ l.fn.text ++ flat_map (λ scene. csv_row (scene_fields l.actors (scene_in (map scene_data l.scenes) scene))) (take l.scene-index l.order)
