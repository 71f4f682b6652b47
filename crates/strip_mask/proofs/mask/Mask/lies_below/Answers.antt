use Rattle.std.proofs.Common.{◌≡◌, ◌↔◌}
use Rattle.strip_mask.specs.Set.{LiesBelow}
use Rattle.strip_mask.proofs.Below.{lies_by_minus}
use Rattle.strip_mask.proofs.mask.Mask.lies_below.Goals as goal

pub returns : goal.returns
returns c =
    let none : (c.minus.result.0 ≡ 0) ↔ LiesBelow c.args.count c.args.self.0 = rw (c.minus.ensures, c.below.ensures) (lies_by_minus c.args.count c.args.self.0) in
    (λ empty. none.0 (c.is_empty.ensures.0 empty), λ lies. c.is_empty.ensures.1 (none.1 lies))
