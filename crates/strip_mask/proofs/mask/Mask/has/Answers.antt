use Rattle.std.proofs.Common.{ap, nat_eq}
use Rattle.std.proofs.lemmas.Nat.Bits.{shr_and_one}
use Rattle.strip_mask.specs.Set.{has}
use Rattle.strip_mask.proofs.mask.Mask.has.Goals as goal

pub returns : goal.returns
unfolding has
returns c = ap (λ x. nat_eq x 1) (shr_and_one c.args.self.0 c.args.i)
