use Rattle.std.proofs.Common.{◌≡◌, [], replicate}
use Rattle.strip_world.proofs.opening.empty_stripes.Given as goal

abbrev pub invariant-loop-stripe : goal.invariant-loop-stripe
invariant-loop-stripe l = (l.stripes.items ≡ replicate l._stripe (replicate l.fn.buckets [])) × (l.buckets ≡ l.fn.buckets)
