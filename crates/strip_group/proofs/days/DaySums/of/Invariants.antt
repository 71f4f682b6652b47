use Rattle.std.proofs.Common.{◌≡◌, ℕ, ◌*◌, ◌<◌, [], drop, length, slice_index, slice_index_or}
use Rattle.strip_mask.specs.Set.{sum_over}
use Rattle.strip_group.proofs.days.DaySums.of.Given as goal

-- the tables so far
abbrev pub invariant-loop-number : goal.invariant-loop-number
invariant-loop-number l = record {
  count : length l.tables.items ≡ l.number;
  each : (number set : ℕ) → number < l.number → set < 4096 → slice_index (slice_index_or l.tables.items number []) set ≡ sum_over (drop (12 * number) l.days) set;
}
