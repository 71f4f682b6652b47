use Rattle.std.proofs.Common.{arith}
use Rattle.strip_bound.proofs.Finish.{pairs_within_groups, bound_finishes}
use Rattle.strip_bound.proofs.laws.the_bounds_are_true.Goals as goal

pub returns-clause-plain : goal.returns-clause-plain
returns-clause-plain c = λ film set. omega arith

pub returns-clause-arrivals : goal.returns-clause-arrivals
returns-clause-arrivals c = λ film set. omega arith

pub returns-clause-pairs : goal.returns-clause-pairs
returns-clause-pairs c = λ film set is lies. pairs_within_groups film set is

pub returns-clause-finish : goal.returns-clause-finish
returns-clause-finish c = bound_finishes
