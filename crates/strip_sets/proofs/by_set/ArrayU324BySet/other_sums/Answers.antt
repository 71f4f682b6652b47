use Rattle.std.proofs.Common.{arith}
use Rattle.strip_sets.proofs.TwoPlaces.{other_sums_of_two, sum_full}
use Rattle.strip_sets.proofs.by_set.ArrayU324BySet.other_sums.Goals as goal

pub overflow_add-with_first : goal.overflow_add-with_first
overflow_add-with_first c = record { fits = omega (arith, c.requires.fits, sum_full c.args.numbers.now) }

pub overflow_add-with_second : goal.overflow_add-with_second
overflow_add-with_second c = record { fits = omega (arith, c.requires.fits, sum_full c.args.numbers.now) }

pub overflow_add-self : goal.overflow_add-self
overflow_add-self c = record { fits = omega (arith, c.requires.fits, sum_full c.args.numbers.now) }

pub overflow_cast-self : goal.overflow_cast-self
overflow_cast-self c = record { fits = omega (arith, c.requires.fits, sum_full c.args.numbers.now) }

pub overflow_cast-self-2 : goal.overflow_cast-self-2
overflow_cast-self-2 c = record { fits = omega (arith, c.requires.fits, sum_full c.args.numbers.now) }

pub overflow_cast-self-3 : goal.overflow_cast-self-3
overflow_cast-self-3 c = record { fits = omega (arith, c.requires.fits, sum_full c.args.numbers.now) }

pub returns : goal.returns
returns c = other_sums_of_two c.args.numbers.now c.args.first
