use Rattle.std.proofs.Common.{ℕ, ◌^◌, ◌-◌, ◌∙◌, ap, bit_and, arith}
use Rattle.std.proofs.lemmas.Nat.{one_shl, pow_below}
use Rattle.strip_mask.specs.Set.{without}
use Rattle.strip_mask.proofs.ByMembers.{minus_by_not}
use Rattle.strip_mask.proofs.mask.Mask.without.Goals as goal

pub returns : goal.returns
unfolding without
returns c = ap (λ (x : ℕ). bit_and c.args.self.0 (2 ^ 64 - 1 - x)) (one_shl c.args.i 64 c.requires) ∙ minus_by_not c.args.self.0 (2 ^ c.args.i) (omega arith) (pow_below c.args.i 64 c.requires)
