use Rattle.strip_model.proofs.Pays.{pay_most, pay_small}
use Rattle.strip_model.proofs.laws.pays_stay_small.Goals as goal

pub returns : goal.returns
returns c = record { most = pay_most; small = pay_small }
