use Rattle.std.proofs.Common.{Bor, ℕ, List, arith, slice_index}
use Rattle.strip_sets.specs.Numbers.{by_class}
use Rattle.strip_sets.proofs.Owed.{owes_same}
use Rattle.strip_sets.proofs.Vectors.{rated_at, rated_fit, rated_lanes}
use Rattle.strip_sets.proofs.by_set.ArrayU324BySet.or_saved.Goals as goal

pub overflow_mul-saved : goal.overflow_mul-saved
overflow_mul-saved g c = rated_fit c.low_bits.result c.args.hold c.args.days_before.now c.low_bits.ensures c.told-days_before
    (λ i lt. omega (arith, c.requires.fits i lt))

pub owed_from-debts-requires-clause-rise : goal.owed_from-debts-requires-clause-rise
owed_from-debts-requires-clause-rise g c = λ class lane known lt. omega (
  arith,
  c.requires.rise class lane known lt,
  c.lanes-2.ensures.same class lane,
  c.lanes-3.ensures.same class lane,
)

pub owed_from-debts-requires-clause-fits : goal.owed_from-debts-requires-clause-fits
owed_from-debts-requires-clause-fits g c = λ lane lt. omega (
  arith,
  c.requires.covered lane lt,
  c.requires.fits lane lt,
  owes_same g.C.Count.COUNT (by_class {R = Bor (List ℕ)} (λ s. slice_index s.now) c.args.extras) (by_class {R = Bor (List ℕ)} (λ s. slice_index s.now) c.args.owed)
      (by_class {R = Bor (List ℕ)} (λ s. slice_index s.now) c.args.owed_before) (by_class slice_index c.lanes.result) (by_class slice_index c.lanes-2.result) (by_class slice_index c.lanes-3.result)
      lane lane (λ class. c.lanes.ensures.same class lane) (λ class. c.lanes-2.ensures.same class lane) (λ class. c.lanes-3.ensures.same class lane),
)

pub raise-requires-clause-lanes : goal.raise-requires-clause-lanes
raise-requires-clause-lanes g c = (
  c.told-self,
  c.told-others,
  rated_lanes c.low_bits.result c.args.hold c.args.days_before.now c.low_bits.ensures c.told-days_before
      (λ i lt. omega (arith, c.requires.fits i lt)),
  c.owed_from-debts.ensures.lanes,
)

pub raise-requires-clause-fits : goal.raise-requires-clause-fits
raise-requires-clause-fits g c = λ lane lt. omega (
  arith,
  c.requires.fits lane lt,
  rated_at c.low_bits.result c.args.hold c.args.days_before.now c.low_bits.ensures c.told-days_before
      (λ i lt. omega (arith, c.requires.fits i lt)) lane lt,
)

pub raise-requires-clause-covered : goal.raise-requires-clause-covered
raise-requires-clause-covered g c = λ lane lt. omega (
  arith,
  c.requires.covered lane lt,
  c.owed_from-debts.ensures.each lane lt,
  owes_same g.C.Count.COUNT (by_class {R = Bor (List ℕ)} (λ s. slice_index s.now) c.args.extras) (by_class {R = Bor (List ℕ)} (λ s. slice_index s.now) c.args.owed)
      (by_class {R = Bor (List ℕ)} (λ s. slice_index s.now) c.args.owed_before) (by_class slice_index c.lanes.result) (by_class slice_index c.lanes-2.result) (by_class slice_index c.lanes-3.result)
      lane lane (λ class. c.lanes.ensures.same class lane) (λ class. c.lanes-2.ensures.same class lane) (λ class. c.lanes-3.ensures.same class lane),
)

pub returns : goal.returns
returns g c = λ set lt. omega (
  arith,
  c.raise.ensures.each set lt,
  rated_at c.low_bits.result c.args.hold c.args.days_before.now c.low_bits.ensures c.told-days_before
      (λ i lt. omega (arith, c.requires.fits i lt)) set lt,
  c.owed_from-debts.ensures.each set lt,
  owes_same g.C.Count.COUNT (by_class {R = Bor (List ℕ)} (λ s. slice_index s.now) c.args.extras) (by_class {R = Bor (List ℕ)} (λ s. slice_index s.now) c.args.owed)
      (by_class {R = Bor (List ℕ)} (λ s. slice_index s.now) c.args.owed_before) (by_class slice_index c.lanes.result) (by_class slice_index c.lanes-2.result) (by_class slice_index c.lanes-3.result)
      set set (λ class. c.lanes.ensures.same class set) (λ class. c.lanes-2.ensures.same class set) (λ class. c.lanes-3.ensures.same class set),
)
