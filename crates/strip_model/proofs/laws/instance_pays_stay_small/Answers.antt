use Rattle.strip_model.proofs.Small.{pay_small_of}
use Rattle.strip_model.proofs.laws.instance_pays_stay_small.Goals as goal

pub returns : goal.returns
returns c = pay_small_of
