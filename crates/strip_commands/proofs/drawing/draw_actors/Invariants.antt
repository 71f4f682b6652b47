use Rattle.std.proofs.Common.{◌≡◌, map}
use Rattle.std.specs.List.{range_with_len}
use Rattle.strip_model.specs.Instance.{actor_data}
use Rattle.strip_commands.specs.Generated.{actor_at}
use Rattle.strip_commands.specs.Words.{behind}
use Rattle.strip_commands.proofs.drawing.draw_actors.Given as goal

abbrev pub invariant-loop-actor : goal.invariant-loop-actor
invariant-loop-actor l = record {
  behind : l.words ≡ behind l.fn.words l.actor;
  drawn : map actor_data l.drawn.items ≡ map (actor_at l.fn.words) (range_with_len 0 l.actor);
}
