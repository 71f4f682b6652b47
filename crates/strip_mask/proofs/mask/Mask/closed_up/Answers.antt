use Rattle.std.proofs.Common.{ℕ, ◌-◌, ◌∙◌, ◌/◌, ap, bit_and, bit_or, arith, w64}
use Rattle.std.specs.Int.{bit_not}
use Rattle.std.proofs.lemmas.Nat.{one_shl}
use Rattle.strip_mask.proofs.Gaps.{closed_by_ones}
use Rattle.strip_mask.proofs.mask.Mask.closed_up.Goals as goal

pub returns : goal.returns
returns c =
    ap (λ (power : ℕ). bit_or (bit_and c.args.self.0 (power - 1)) (bit_and (c.args.self.0 / 2) (bit_not w64 (power - 1)))) (one_shl c.args.i 64 c.requires)
    ∙ closed_by_ones c.args.self.0 c.args.i (omega arith) c.requires
