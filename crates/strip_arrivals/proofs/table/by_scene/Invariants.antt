use Rattle.std.proofs.Common.{◌≡◌, ℕ, ◌<◌, ◌≤◌, length, slice_index}
use Rattle.strip_arrivals.proofs.table.by_scene.Given as goal

-- the days so far
abbrev pub invariant-loop-scene : goal.invariant-loop-scene
invariant-loop-scene l = record {
  long : length l.numbers ≡ 64;
  so_far : (scene : ℕ) → scene < l.scene → slice_index l.numbers scene ≡ slice_index l.days scene;
  later : (scene : ℕ) → l.scene ≤ scene → slice_index l.numbers scene ≡ 0;
}
