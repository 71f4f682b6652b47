use Rattle.std.proofs.Common.{◌≡◌, ◌+◌, ◌*◌, map}
use Rattle.std.specs.List.{range_with_len}
use Rattle.strip_model.specs.Instance.{scene_data}
use Rattle.strip_commands.specs.Generated.{scene_at}
use Rattle.strip_commands.specs.Words.{behind}
use Rattle.strip_commands.proofs.drawing.draw_scenes.Given as goal

abbrev pub invariant-loop-scene : goal.invariant-loop-scene
invariant-loop-scene l = record {
  behind : l.words ≡ behind l.fn.words (l.scene * (1 + l.actors));
  drawn : map scene_data l.drawn.items ≡ map (scene_at l.fn.words l.actors) (range_with_len 0 l.scene);
}
