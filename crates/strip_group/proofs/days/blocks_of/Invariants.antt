use Rattle.std.proofs.Common.{◌≡◌, ℕ, ◌<◌, length, slice_index}
use Rattle.strip_group.specs.Days.{block_of}
use Rattle.strip_group.proofs.days.blocks_of.Given as goal

-- the blocks so far
abbrev pub invariant-loop-place : goal.invariant-loop-place
invariant-loop-place l = record {
  long : length l.parts ≡ 6;
  so_far : (place : ℕ) → place < l.place → slice_index l.parts place ≡ block_of (slice_index l.sets place) l.number;
}
