use Rattle.strip_check.proofs.Tests.{same_before}
use Rattle.strip_check.proofs.order.keeps_pair.Goals as goal

pub returns : goal.returns
returns c = same_before c.args.pair c.args.order.now c.keeps.result c.keeps.ensures
