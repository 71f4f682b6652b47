use Rattle.std.proofs.Common.{◌≡◌, ℕ, ◌<◌, length, slice_index}
use Rattle.strip_mask.specs.Set.{has}
use Rattle.strip_arrivals.proofs.table.plays_of.Given as goal

-- the actors so far
abbrev pub invariant-loop-actor : goal.invariant-loop-actor
invariant-loop-actor l = record {
  count : length l.plays.items ≡ l.actor;
  each : (actor scene : ℕ) → actor < l.actor → has (slice_index l.plays.items actor) scene ≡ has (slice_index l.casts scene) actor;
}
