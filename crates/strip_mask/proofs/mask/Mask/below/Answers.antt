use Rattle.std.proofs.Common.{◌∙◌, sym, ap, ℕ}
use Rattle.strip_mask.specs.Set.{with}
use Rattle.strip_mask.proofs.Below.{full-zero, full-more}
use Rattle.strip_mask.proofs.mask.Mask.below.Goals as goal

pub loop-number-init : goal.loop-number-init
loop-number-init c = sym full-zero

pub loop-number-preserved : goal.loop-number-preserved
loop-number-preserved c = c.with-all.ensures ∙ ap (λ (set : ℕ). with set c.loop-number.number) c.loop-number.invariant ∙ sym (full-more c.loop-number.number)
