use Rattle.std.proofs.Common.{◌≡◌, ◌++◌, sum_by, slice_index}
use Rattle.strip_mask.specs.Set.{members}
use Rattle.strip_mask.specs.Iter.{rest_of}
use Rattle.strip_mask.proofs.mask.sum_over.Given as goal

-- what was yielded and what is left are the members, and the sum is that of what was yielded
abbrev pub invariant-loop-i : goal.invariant-loop-i
invariant-loop-i l = (l.sum ≡ sum_by (slice_index l.values) l.yielded) × (l.yielded ++ rest_of l.i-iterator ≡ members l.fn.m.0)
