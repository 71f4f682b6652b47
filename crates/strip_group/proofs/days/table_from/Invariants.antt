use Rattle.std.proofs.Common.{◌≡◌, ℕ, ◌<◌, drop, length, slice_index}
use Rattle.strip_mask.specs.Set.{sum_over}
use Rattle.strip_group.proofs.days.table_from.Given as goal

-- the sets so far
abbrev pub invariant-loop-number : goal.invariant-loop-number
invariant-loop-number l = record {
  long : length l.table ≡ 4096;
  so_far : (set : ℕ) → set < l.number → slice_index l.table set ≡ sum_over (drop l.first l.days) set;
}
