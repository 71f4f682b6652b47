use Rattle.std.proofs.Common.{slice_index}
use Rattle.strip_sets.proofs.TwoPlaces.{IsWithin, begun_within, can_step, debts_fit, first_within, savings_are, savings_fit, second_within, steps_rise, three_turns}
use Rattle.strip_sets.proofs.lanes.pass_two.Goals as goal

pub step_savings-saved-requires-clause-fits : goal.step_savings-saved-requires-clause-fits
step_savings-saved-requires-clause-fits g c = savings_fit c.requires.room

pub step_debts-debts-requires-clause-rise : goal.step_debts-debts-requires-clause-rise
step_debts-debts-requires-clause-rise g c = steps_rise c.requires.room

pub step_debts-debts-requires-clause-fits : goal.step_debts-debts-requires-clause-fits
step_debts-debts-requires-clause-fits g c = debts_fit c.requires.room

pub raise_by_first-one-requires : goal.raise_by_first-one-requires
raise_by_first-one-requires g c = can_step c.requires.room c.step_savings-saved.result c.step_debts-debts.result c.step_savings-saved.ensures.lanes c.step_debts-debts.ensures.lanes
    (savings_are c.requires.room c.step_savings-saved.result c.step_savings-saved.ensures.each) c.step_debts-debts.ensures.each
    c.args.numbers c.requires.lanes.0 (begun_within c.requires.room)

pub raise_by_second-after-requires : goal.raise_by_second-after-requires
raise_by_second-after-requires g c =
    let one : IsWithin c.requires.room (slice_index c.raise_by_first-one.result) = first_within c.requires.room c.step_savings-saved.result c.step_debts-debts.result c.step_savings-saved.ensures.lanes c.step_debts-debts.ensures.lanes
    (savings_are c.requires.room c.step_savings-saved.result c.step_savings-saved.ensures.each) c.step_debts-debts.ensures.each
    c.args.numbers (begun_within c.requires.room) c.raise_by_first-one.result c.raise_by_first-one.ensures in
    can_step c.requires.room c.step_savings-saved.result c.step_debts-debts.result c.step_savings-saved.ensures.lanes c.step_debts-debts.ensures.lanes
    (savings_are c.requires.room c.step_savings-saved.result c.step_savings-saved.ensures.each) c.step_debts-debts.ensures.each
    c.raise_by_first-one.result c.raise_by_first-one.ensures.lanes one

pub raise_by_first-requires : goal.raise_by_first-requires
raise_by_first-requires g c =
    let one : IsWithin c.requires.room (slice_index c.raise_by_first-one.result) = first_within c.requires.room c.step_savings-saved.result c.step_debts-debts.result c.step_savings-saved.ensures.lanes c.step_debts-debts.ensures.lanes
    (savings_are c.requires.room c.step_savings-saved.result c.step_savings-saved.ensures.each) c.step_debts-debts.ensures.each
    c.args.numbers (begun_within c.requires.room) c.raise_by_first-one.result c.raise_by_first-one.ensures in
    let after : IsWithin c.requires.room (slice_index c.raise_by_second-after.result) = second_within c.requires.room c.step_savings-saved.result c.step_debts-debts.result c.step_savings-saved.ensures.lanes c.step_debts-debts.ensures.lanes
    (savings_are c.requires.room c.step_savings-saved.result c.step_savings-saved.ensures.each) c.step_debts-debts.ensures.each
    c.raise_by_first-one.result one c.raise_by_second-after.result c.raise_by_second-after.ensures in
    can_step c.requires.room c.step_savings-saved.result c.step_debts-debts.result c.step_savings-saved.ensures.lanes c.step_debts-debts.ensures.lanes
    (savings_are c.requires.room c.step_savings-saved.result c.step_savings-saved.ensures.each) c.step_debts-debts.ensures.each
    c.raise_by_second-after.result c.raise_by_second-after.ensures.lanes after

pub returns-clause-saves : goal.returns-clause-saves
returns-clause-saves g c =
    let one : IsWithin c.requires.room (slice_index c.raise_by_first-one.result) = first_within c.requires.room c.step_savings-saved.result c.step_debts-debts.result c.step_savings-saved.ensures.lanes c.step_debts-debts.ensures.lanes
    (savings_are c.requires.room c.step_savings-saved.result c.step_savings-saved.ensures.each) c.step_debts-debts.ensures.each
    c.args.numbers (begun_within c.requires.room) c.raise_by_first-one.result c.raise_by_first-one.ensures in
    let after : IsWithin c.requires.room (slice_index c.raise_by_second-after.result) = second_within c.requires.room c.step_savings-saved.result c.step_debts-debts.result c.step_savings-saved.ensures.lanes c.step_debts-debts.ensures.lanes
    (savings_are c.requires.room c.step_savings-saved.result c.step_savings-saved.ensures.each) c.step_debts-debts.ensures.each
    c.raise_by_first-one.result one c.raise_by_second-after.result c.raise_by_second-after.ensures in
    let last : IsWithin c.requires.room (slice_index c.raise_by_first.result) = first_within c.requires.room c.step_savings-saved.result c.step_debts-debts.result c.step_savings-saved.ensures.lanes c.step_debts-debts.ensures.lanes
    (savings_are c.requires.room c.step_savings-saved.result c.step_savings-saved.ensures.each) c.step_debts-debts.ensures.each
    c.raise_by_second-after.result after c.raise_by_first.result c.raise_by_first.ensures in
    three_turns c.args.numbers c.raise_by_first-one.result c.raise_by_second-after.result c.raise_by_first.result c.step_savings-saved.result c.step_debts-debts.result
    c.requires.room (savings_are c.requires.room c.step_savings-saved.result c.step_savings-saved.ensures.each) c.step_debts-debts.ensures.each
    c.raise_by_first-one.ensures c.raise_by_second-after.ensures c.raise_by_first.ensures last
