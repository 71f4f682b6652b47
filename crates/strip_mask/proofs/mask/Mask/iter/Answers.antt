use Rattle.strip_mask.specs.Set.{size}
use Rattle.strip_mask.proofs.Sizes.{size-le}
use Rattle.strip_mask.proofs.mask.Mask.iter.Goals as goal

pub returns-clause-few : goal.returns-clause-few
unfolding size
returns-clause-few c = size-le c.args.self.0
