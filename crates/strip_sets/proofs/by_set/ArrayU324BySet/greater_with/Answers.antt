use Rattle.std.proofs.Common.{arith}
use Rattle.strip_sets.proofs.Vectors.{product_at, product_lanes, products_fit, rated_at, rated_fit, rated_lanes}
use Rattle.strip_sets.proofs.by_set.ArrayU324BySet.greater_with.Goals as goal

pub overflow_mul-saved : goal.overflow_mul-saved
overflow_mul-saved c = rated_fit c.low_bits.result c.args.rate c.args.paid.now c.low_bits.ensures c.told-paid
    (λ i lt. omega (arith, c.requires.fits i lt))

pub overflow_mul-debts : goal.overflow_mul-debts
overflow_mul-debts c = products_fit c.args.extras.now c.args.owed.now c.told-extras c.told-owed
    (λ i lt. omega (arith, c.requires.covered i lt, c.requires.fits i lt))

pub raise-requires-clause-lanes : goal.raise-requires-clause-lanes
raise-requires-clause-lanes c = (
  c.told-self,
  c.told-others,
  rated_lanes c.low_bits.result c.args.rate c.args.paid.now c.low_bits.ensures c.told-paid
      (λ i lt. omega (arith, c.requires.fits i lt)),
  product_lanes c.args.extras.now c.args.owed.now c.told-extras c.told-owed,
)

pub raise-requires-clause-fits : goal.raise-requires-clause-fits
raise-requires-clause-fits c = λ lane lt. omega (
  arith,
  c.requires.fits lane lt,
  rated_at c.low_bits.result c.args.rate c.args.paid.now c.low_bits.ensures c.told-paid
      (λ i lt. omega (arith, c.requires.fits i lt)) lane lt,
)

pub raise-requires-clause-covered : goal.raise-requires-clause-covered
raise-requires-clause-covered c = λ lane lt. omega (
  arith,
  c.requires.covered lane lt,
  product_at c.args.extras.now c.args.owed.now c.told-extras c.told-owed lane lt,
)

pub returns : goal.returns
returns c = λ set lt. omega (
  arith,
  c.raise.ensures.each set lt,
  rated_at c.low_bits.result c.args.rate c.args.paid.now c.low_bits.ensures c.told-paid
      (λ i lt. omega (arith, c.requires.fits i lt)) set lt,
  product_at c.args.extras.now c.args.owed.now c.told-extras c.told-owed set lt,
)
