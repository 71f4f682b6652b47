use Rattle.std.proofs.Common.{reverse}
use Rattle.std.proofs.lemmas.List.Sorted.{IsPermutation-reverse}
use Rattle.strip_model.proofs.Counts.{order_permuted}
use Rattle.strip_model.proofs.Pays.{pay-reverse}
use Rattle.strip_model.proofs.laws.the_reverse_pays_the_same.Goals as goal

pub returns : goal.returns
returns c = record { order = λ n order is. order_permuted n order (reverse order) is (IsPermutation-reverse order); pay = pay-reverse }
