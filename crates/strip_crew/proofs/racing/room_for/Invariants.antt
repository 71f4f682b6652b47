use Rattle.std.proofs.Common.{◌≡◌}
use Rattle.strip_lines.specs.Paths.{factorial}
use Rattle.strip_crew.proofs.racing.room_for.Given as goal

abbrev pub invariant-loop-scene : goal.invariant-loop-scene
invariant-loop-scene l = record {
  orders : l.orders ≡ factorial l.scene;
}
