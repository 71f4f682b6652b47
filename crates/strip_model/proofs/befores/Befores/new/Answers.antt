use Rattle.strip_model.proofs.Knowing.{knows_none}
use Rattle.strip_model.proofs.befores.Befores.new.Goals as goal

pub returns : goal.returns
returns c = knows_none c.new-none.result c.new-none.ensures
