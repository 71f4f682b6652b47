use Rattle.strip_world.proofs.Acting.{limits}
use Rattle.strip_world.proofs.hand.WorldHand.keeps_limits.Goals as goal

pub returns : goal.returns
returns c = limits c.args.self.now c.requires
