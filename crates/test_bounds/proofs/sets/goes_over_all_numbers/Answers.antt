use Rattle.std.proofs.Common.{lit<}
use Rattle.strip_mask.specs.Set.{has, members, numbers_below, sum_over}
use Rattle.strip_mask.proofs.ByMembers.{below_width}
use Rattle.test_bounds.proofs.sets.goes_over_all_numbers.Goals as goal

pub sum_over-requires-clause-within : goal.sum_over-requires-clause-within
sum_over-requires-clause-within g c = λ i member. below_width 18446744073709551615 64 i (lit< tt) member

pub sum_over-requires-clause-fits : goal.sum_over-requires-clause-fits
unfolding sum_over members has numbers_below
sum_over-requires-clause-fits g c = lit< tt
