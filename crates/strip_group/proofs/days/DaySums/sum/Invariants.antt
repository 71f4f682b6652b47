use Rattle.std.proofs.Common.{◌≡◌, ℕ, ◌*◌, ◌≤◌, cond, slice_index}
use Rattle.strip_mask.specs.Set.{has}
use Rattle.strip_mask.specs.Sums.{sum_below}
use Rattle.strip_group.proofs.days.DaySums.sum.Given as goal

-- the days of the set's scenes in the tables so far
abbrev pub invariant-loop-number : goal.invariant-loop-number
invariant-loop-number l = record {
  so_far : l.sum ≡ sum_below (12 * l.number) (λ i. cond {A = ℕ} (has l.fn.set.0 i) (slice_index l.self-inside.days.items i) 0);
  small : l.sum ≤ 65535 * l.number;
}
