use Rattle.std.proofs.Common.{◌≡◌, slice_index}
use Rattle.strip_mask.specs.Sums.{sum_below}
use Rattle.strip_group.proofs.days.sum_of.Given as goal

-- the sum so far
abbrev pub invariant-loop-scene : goal.invariant-loop-scene
invariant-loop-scene l = record { so_far : l.sum ≡ sum_below l.scene (slice_index l.days) }
