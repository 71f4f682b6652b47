use Rattle.strip_start.proofs.Chains.{chain_kept, chain_no_dearer, one_improved}
use Rattle.strip_start.proofs.laws.an_order_is_improved_in_one_way.Goals as goal

pub returns-clause-one : goal.returns-clause-one
returns-clause-one c = one_improved

pub returns-clause-kept : goal.returns-clause-kept
returns-clause-kept c = λ film order best is. chain_kept film is.moves order best is.chain

pub returns-clause-no_dearer : goal.returns-clause-no_dearer
returns-clause-no_dearer c = λ film order best is. chain_no_dearer film is.moves order best is.chain
