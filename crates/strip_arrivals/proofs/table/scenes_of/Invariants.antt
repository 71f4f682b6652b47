use Rattle.std.proofs.Common.{◌≡◌, ℕ, ◌<◌, slice_index}
use Rattle.strip_mask.specs.Set.{LiesBelow, has}
use Rattle.strip_arrivals.proofs.table.scenes_of.Given as goal

-- the scenes with the actor among those so far
abbrev pub invariant-loop-scene : goal.invariant-loop-scene
invariant-loop-scene l = record {
  told : (scene : ℕ) → scene < l.scene → has l.scenes.0 scene ≡ has (slice_index l.casts scene) l.fn.actor;
  lies : LiesBelow l.scene l.scenes.0;
}
