use Rattle.std.proofs.Common.{◌≡◌, ◌<◌, ◌≤◌, ℕ, length, max, slice_index}
use Rattle.strip_worker.proofs.walked.merge.Given as goal

-- the tasks so far have the greater number, and the others theirs
abbrev pub invariant-loop-task : goal.invariant-loop-task
invariant-loop-task l = record {
  long : length l.into.found.items ≡ length l.fn.into.found.items;
  spent : l.into.spent ≡ l.fn.into.spent;
  done : (i : ℕ) → i < l.task → slice_index l.into.found.items i ≡ max (slice_index l.fn.into.found.items i) (slice_index l.from.found.items i);
  left : (i : ℕ) → l.task ≤ i → slice_index l.into.found.items i ≡ slice_index l.fn.into.found.items i;
}
