use Rattle.std.proofs.Common.{arith}
use Rattle.strip_least.proofs.least.Least.peek.Goals as goal

pub peek-requires : goal.peek-requires
peek-requires c = omega (arith, c.args.self.now.two_words)
