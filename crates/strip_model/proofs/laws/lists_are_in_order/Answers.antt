use Rattle.strip_model.proofs.Before.{before_total, before-itself, before_trans}
use Rattle.strip_model.proofs.laws.lists_are_in_order.Goals as goal

pub returns : goal.returns
returns c = record { total = before_total; once = before-itself; transitive = before_trans }
