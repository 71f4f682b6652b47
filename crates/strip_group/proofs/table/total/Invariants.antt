use Rattle.std.proofs.Common.{◌≡◌, ◌*◌, ◌≤◌, slice_index}
use Rattle.strip_mask.specs.Sums.{sum_below}
use Rattle.strip_group.proofs.table.total.Given as goal

-- the sum so far
abbrev pub invariant-loop-place : goal.invariant-loop-place
invariant-loop-place l = record {
  so_far : l.sum ≡ sum_below l.place (slice_index l.rates);
  small : l.sum ≤ 64000000000 * l.place;
}
