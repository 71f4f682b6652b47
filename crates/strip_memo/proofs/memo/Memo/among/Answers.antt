use Rattle.std.proofs.Common.{◌≡◌, false}
use Rattle.strip_mask.specs.Set.{has}
use Rattle.strip_mask.proofs.ByMembers.{has-empty}
use Rattle.strip_memo.proofs.memo.Memo.among.Goals as goal

-- the empty set lies in every film
pub whole-requires : goal.whole-requires
whole-requires g c = record { lies = λ i there. absurd (let e : has 0 i ≡ false = has-empty i in cc) }
