use Rattle.strip_instance.proofs.Arranged.{arranged_is}
use Rattle.strip_instance.proofs.Paid.{paid_in_order}
use Rattle.strip_instance.proofs.laws.an_arranged_instance_pays_the_same.Goals as goal

pub returns-clause-limits : goal.returns-clause-limits
returns-clause-limits c = λ inst order is is_order. arranged_is inst order is_order is

pub returns-clause-pay : goal.returns-clause-pay
returns-clause-pay c = λ inst order is_order. paid_in_order inst order is_order
