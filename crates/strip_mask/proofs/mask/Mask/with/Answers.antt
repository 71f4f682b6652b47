use Rattle.std.proofs.Common.{ℕ, ap, bit_or}
use Rattle.std.proofs.lemmas.Nat.{one_shl}
use Rattle.strip_mask.specs.Set.{union, with}
use Rattle.strip_mask.proofs.mask.Mask.with.Goals as goal

pub returns : goal.returns
unfolding union with
returns c = ap (λ (x : ℕ). bit_or c.args.self.0 x) (one_shl c.args.i 64 c.requires)
