use Rattle.std.proofs.Common.{ap, sym, ◌∙◌, arith}
use Rattle.strip_mask.specs.Set.{first}
use Rattle.strip_mask.proofs.Sizes.{first-empty, first_some}
use Rattle.strip_mask.proofs.mask.Mask.first.Goals as goal

pub returns-then-self-eq0 : goal.returns-then-self-eq0
returns-then-self-eq0 c = sym (ap first c.if-self-eq0.true ∙ first-empty)

pub returns-else-self-eq0 : goal.returns-else-self-eq0
returns-else-self-eq0 c = sym (first_some c.args.self.0 (omega arith) c.if-self-eq0.false)
