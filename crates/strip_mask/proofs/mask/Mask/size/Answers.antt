use Rattle.std.proofs.Common.{arith}
use Rattle.strip_mask.proofs.Sizes.{ones_size}
use Rattle.strip_mask.proofs.mask.Mask.size.Goals as goal

pub returns : goal.returns
returns c = ones_size c.args.self.0 (omega arith)
