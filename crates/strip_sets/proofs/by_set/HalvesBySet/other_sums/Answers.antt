use Rattle.std.proofs.Common.{◌+◌, ℕ, ap, arith, slice_index}
use Rattle.strip_sets.proofs.Parts.{other_sums_halves}
use Rattle.strip_sets.proofs.Sets.{sum_full_more}
use Rattle.strip_sets.proofs.by_set.HalvesBySet.other_sums.Goals as goal

pub other_sums-requires-clause-fits : goal.other_sums-requires-clause-fits
other_sums-requires-clause-fits g c = omega (arith, c.requires.fits, sum_full_more c.args.numbers.now g.T.BySet.places (omega (arith, c.requires.few)))

pub more_than-requires : goal.more_than-requires
more_than-requires g c = λ set lt. omega (
  arith,
  c.requires.fits,
  c.other_sums.ensures set lt,
  sum_full_more c.args.numbers.now g.T.BySet.places (omega (arith, c.requires.few)),
  ap (slice_index c.args.numbers.now) c.places.ensures,
)

pub returns : goal.returns
returns g c = other_sums_halves c.args.numbers.now g.T.BySet.places (omega (arith, c.requires.few)) c.args.first
    (c.args.first + slice_index c.args.numbers.now c.places.result) (g.T.BySet.value c.more_than.new.self) (g.T.BySet.value c.other_sums.new.self)
    (ap (λ (k : ℕ). c.args.first + slice_index c.args.numbers.now k) c.places.ensures)
    (λ set lt. omega (arith, c.more_than.ensures set lt, c.other_sums.ensures set lt)) c.other_sums.ensures
