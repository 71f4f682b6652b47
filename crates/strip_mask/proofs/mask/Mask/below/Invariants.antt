use Rattle.std.proofs.Common.{◌≡◌}
use Rattle.strip_mask.specs.Set.{full}
use Rattle.strip_mask.proofs.mask.Mask.below.Given as goal

abbrev pub invariant-loop-number : goal.invariant-loop-number
invariant-loop-number l = l.all.0 ≡ full l.number
