use Rattle.std.proofs.Common.{◌≡◌, ℕ, ◌<◌, not, slice_index}
use Rattle.strip_mask.specs.Set.{LiesBelow, has}
use Rattle.strip_group.proofs.table.scenes_without.Given as goal

-- the scenes without the actor among those so far
abbrev pub invariant-loop-scene : goal.invariant-loop-scene
invariant-loop-scene l = record {
  told : (scene : ℕ) → scene < l.scene → has l.scenes.0 scene ≡ not (has (slice_index l.casts scene) l.fn.actor);
  lies : LiesBelow l.scene l.scenes.0;
}
