use Rattle.std.proofs.Common.{refl}
use Rattle.strip_mask.specs.Set.{meet}
use Rattle.strip_mask.proofs.mask.Mask.meet.Goals as goal

pub returns : goal.returns
unfolding meet
returns c = refl
