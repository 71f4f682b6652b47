use Rattle.strip_sets.proofs.Once.{one_most}
use Rattle.strip_sets.proofs.laws.a_pass_has_one_result.Goals as goal

pub returns : goal.returns
returns c = one_most
