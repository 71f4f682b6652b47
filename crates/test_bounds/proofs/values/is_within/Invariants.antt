use Rattle.std.proofs.Common.{◌≡◌, ◌+◌, slice_index}
use Rattle.strip_mask.specs.Sums.{sum_below}
use Rattle.test_bounds.proofs.values.is_within.Given as goal

-- what is left of it after those so far
abbrev pub invariant-loop-place : goal.invariant-loop-place
invariant-loop-place l = record { left : l.left + sum_below l.place (slice_index l.numbers) ≡ l.fn.most }
