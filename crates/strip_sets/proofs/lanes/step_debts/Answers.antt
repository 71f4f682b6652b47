use Rattle.std.proofs.Common.{◌∙◌, arith, slice_index}
use Rattle.strip_sets.specs.Numbers.{by_class, step_from, step_to}
use Rattle.strip_sets.proofs.Owed.{owes_same}
use Rattle.strip_sets.proofs.lanes.step_debts.Goals as goal

pub owed_from-requires-clause-rise : goal.owed_from-requires-clause-rise
owed_from-requires-clause-rise g c = λ class step known lt. omega (
  arith,
  c.requires.rise class step known lt,
  c.all_at_ends-there.ensures.each class step lt,
  c.all_at_starts-from.ensures.each class step lt,
)

pub owed_from-requires-clause-fits : goal.owed_from-requires-clause-fits
owed_from-requires-clause-fits g c = λ step lt. omega (
  arith,
  c.requires.fits step lt,
  owes_same g.C.Count.COUNT (by_class slice_index c.args.extras) (by_class slice_index c.args.days)
      (λ class _. by_class slice_index c.args.days class (slice_index step_from step)) (by_class slice_index c.all_at_ends.result) (by_class slice_index c.all_at_ends-there.result)
      (by_class slice_index c.all_at_starts-from.result) (slice_index step_to step) step (λ class. c.all_at_ends.ensures.each class step lt)
      (λ class. c.all_at_ends-there.ensures.each class step lt) (λ class. c.all_at_starts-from.ensures.each class step lt),
)

pub returns-clause-each : goal.returns-clause-each
returns-clause-each g c = λ step lt. c.owed_from.ensures.each step lt ∙ owes_same g.C.Count.COUNT (by_class slice_index c.args.extras) (by_class slice_index c.args.days)
    (λ class _. by_class slice_index c.args.days class (slice_index step_from step)) (by_class slice_index c.all_at_ends.result) (by_class slice_index c.all_at_ends-there.result)
    (by_class slice_index c.all_at_starts-from.result) (slice_index step_to step) step (λ class. c.all_at_ends.ensures.each class step lt)
    (λ class. c.all_at_ends-there.ensures.each class step lt) (λ class. c.all_at_starts-from.ensures.each class step lt)
