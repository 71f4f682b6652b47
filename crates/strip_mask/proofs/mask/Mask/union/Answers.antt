use Rattle.std.proofs.Common.{refl}
use Rattle.strip_mask.specs.Set.{union}
use Rattle.strip_mask.proofs.mask.Mask.union.Goals as goal

pub returns : goal.returns
unfolding union
returns c = refl
