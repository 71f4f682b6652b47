use Rattle.std.proofs.Common.{◌≡◌}
use Rattle.strip_commands.specs.Generated.{cast_of}
use Rattle.strip_commands.specs.Words.{behind}
use Rattle.strip_commands.proofs.drawing.draw_cast.Given as goal

abbrev pub invariant-loop-actor : goal.invariant-loop-actor
invariant-loop-actor l = record {
  behind : l.words ≡ behind l.fn.words l.actor;
  cast : l.cast.0 ≡ cast_of l.fn.words l.actor;
}
