use Rattle.std.proofs.Common.{◌≡◌, ℕ, ◌<◌, length, slice_index}
use Rattle.strip_mask.specs.Set.{has}
use Rattle.strip_model.specs.Pay.{works}
use Rattle.strip_bound.proofs.tables.plays_of.Given as goal

-- the scenes of the actors so far
abbrev pub invariant-loop-actor : goal.invariant-loop-actor
invariant-loop-actor l = record {
  count : length l.plays.items ≡ l.actor;
  each : (actor : ℕ) → actor < l.actor → (scene : ℕ) → has (slice_index l.plays.items actor) scene ≡ works l.film actor scene;
}
