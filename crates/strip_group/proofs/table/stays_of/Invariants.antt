use Rattle.std.proofs.Common.{◌≡◌, ℕ, ◌<◌, length, not, slice_index}
use Rattle.strip_mask.specs.Set.{has}
use Rattle.strip_group.proofs.table.stays_of.Given as goal

-- the scenes without each of the actors so far
abbrev pub invariant-loop-actor : goal.invariant-loop-actor
invariant-loop-actor l = record {
  count : length l.stays.items ≡ l.actor;
  each : (actor : ℕ) → actor < l.actor → (scene : ℕ) → scene < length l.casts → has (slice_index l.stays.items actor) scene ≡ not (has (slice_index l.casts scene) actor);
}
