use Rattle.std.proofs.Common.{arith}
use Rattle.strip_mask.proofs.ByMembers.{minus_by_not}
use Rattle.strip_mask.proofs.mask.Mask.minus.Goals as goal

pub returns : goal.returns
returns c = minus_by_not c.args.self.0 c.args.other.0 (omega arith) (omega arith)
