use Rattle.std.proofs.Common.{◌≡◌, ℕ, ◌<◌, length, slice_index}
use Rattle.strip_bound.specs.Tables.{weight}
use Rattle.strip_bound.proofs.tables.weights_of.Given as goal

-- the weights of the scenes so far
abbrev pub invariant-loop-scene : goal.invariant-loop-scene
invariant-loop-scene l = record {
  count : length l.weights.items ≡ l.scene;
  each : (scene : ℕ) → scene < l.scene → slice_index l.weights.items scene ≡ weight l.film scene;
}
