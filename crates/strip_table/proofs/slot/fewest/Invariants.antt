use Rattle.std.proofs.Common.{ℕ, ◌≤◌, ◌<◌, slice_index}
use Rattle.strip_mask.specs.Set.{size}
use Rattle.strip_table.proofs.slot.fewest.Given as goal

-- the first of the fewest among the places so far
abbrev pub invariant-loop-place : goal.invariant-loop-place
invariant-loop-place l = record {
  within : l.fewest < l.place;
  fewest : (k : ℕ) → k < l.place → size (slice_index l.sets l.fewest) ≤ size (slice_index l.sets k);
  first : (k : ℕ) → k < l.fewest → size (slice_index l.sets l.fewest) < size (slice_index l.sets k);
}
