use Rattle.strip_model.proofs.Ahead.{cycle_not_kept}
use Rattle.strip_model.proofs.Chains.{some_first}
use Rattle.strip_model.proofs.laws.cycles_can_not_be_kept.Goals as goal

pub returns : goal.returns
returns c = record {
  kept = cycle_not_kept;
  first = λ n pairs inside x no_cycle below member. some_first pairs n inside below no_cycle x member;
}
