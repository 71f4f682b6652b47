use Rattle.std.proofs.Common.{◌++◌, arith, slice_index}
use Rattle.strip_group.proofs.Four.{IsFirst, IsSecond, IsWithin, alone_within, first_fits, first_is, first_within, second_fits, second_is, second_within, three_steps}
use Rattle.strip_sets.proofs.Vectors.{lane_of}
use Rattle.strip_group.proofs.by_set.ArrayU324BySet.saved.Goals as goal

pub or_paid-saved-requires-clause-fits : goal.or_paid-saved-requires-clause-fits
or_paid-saved-requires-clause-fits c = first_fits c.args.rates.now (slice_index c.args.days.now) (slice_index c.args.self.now) c.requires.room (slice_index c.args.self.now)
    (alone_within c.args.rates.now (slice_index c.args.days.now) (slice_index c.args.self.now) c.requires.room)
    (slice_index (c.args.self.now ++ c.args.self.now) 0) (slice_index (c.args.self.now ++ c.args.self.now) 2)
    (lane_of c.args.self.now c.args.self.now 0 c.told-self (omega arith)) (lane_of c.args.self.now c.args.self.now 2 c.told-self (omega arith))

pub or_paid-saved-requires-2-clause-fits : goal.or_paid-saved-requires-2-clause-fits
or_paid-saved-requires-2-clause-fits c =
    let begun : IsWithin c.args.rates.now (slice_index c.args.days.now) (slice_index c.args.self.now) c.requires.room
    (slice_index c.args.self.now) = alone_within c.args.rates.now (slice_index c.args.days.now) (slice_index c.args.self.now) c.requires.room in
    let one : IsFirst c.args.rates.now (slice_index c.args.days.now) (slice_index c.args.self.now) c.requires.room (slice_index c.args.self.now) begun
    (slice_index c.or_paid-saved.result) = first_is c.args.rates.now (slice_index c.args.days.now) (slice_index c.args.self.now) c.requires.room
    (slice_index c.args.self.now) begun (slice_index c.or_paid-saved.result) (slice_index (c.args.self.now ++ c.args.self.now) 0) (slice_index
    (c.args.self.now ++ c.args.self.now) 2)
    (lane_of c.args.self.now c.args.self.now 0 c.told-self (omega arith)) (lane_of c.args.self.now c.args.self.now 2 c.told-self (omega arith))
    c.or_paid-saved.ensures.each in
    let within : IsWithin c.args.rates.now (slice_index c.args.days.now) (slice_index c.args.self.now) c.requires.room
    (slice_index c.or_paid-saved.result) = first_within c.args.rates.now (slice_index c.args.days.now) (slice_index c.args.self.now) c.requires.room
    (slice_index c.args.self.now) begun (slice_index c.or_paid-saved.result) one in
    second_fits c.args.rates.now (slice_index c.args.days.now) (slice_index c.args.self.now) c.requires.room (slice_index c.or_paid-saved.result) within (slice_index
    (c.or_paid-saved.result ++ c.or_paid-saved.result) 0) (slice_index (c.or_paid-saved.result ++ c.or_paid-saved.result) 1)
    (lane_of c.or_paid-saved.result c.or_paid-saved.result 0 c.or_paid-saved.ensures.lanes (omega arith))
    (lane_of c.or_paid-saved.result c.or_paid-saved.result 1 c.or_paid-saved.ensures.lanes (omega arith))

pub or_paid-requires-clause-fits : goal.or_paid-requires-clause-fits
or_paid-requires-clause-fits c =
    let begun : IsWithin c.args.rates.now (slice_index c.args.days.now) (slice_index c.args.self.now) c.requires.room
    (slice_index c.args.self.now) = alone_within c.args.rates.now (slice_index c.args.days.now) (slice_index c.args.self.now) c.requires.room in
    let one : IsFirst c.args.rates.now (slice_index c.args.days.now) (slice_index c.args.self.now) c.requires.room (slice_index c.args.self.now) begun
    (slice_index c.or_paid-saved.result) = first_is c.args.rates.now (slice_index c.args.days.now) (slice_index c.args.self.now) c.requires.room
    (slice_index c.args.self.now) begun (slice_index c.or_paid-saved.result) (slice_index (c.args.self.now ++ c.args.self.now) 0) (slice_index
    (c.args.self.now ++ c.args.self.now) 2)
    (lane_of c.args.self.now c.args.self.now 0 c.told-self (omega arith)) (lane_of c.args.self.now c.args.self.now 2 c.told-self (omega arith))
    c.or_paid-saved.ensures.each in
    let within : IsWithin c.args.rates.now (slice_index c.args.days.now) (slice_index c.args.self.now) c.requires.room
    (slice_index c.or_paid-saved.result) = first_within c.args.rates.now (slice_index c.args.days.now) (slice_index c.args.self.now) c.requires.room
    (slice_index c.args.self.now) begun (slice_index c.or_paid-saved.result) one in
    let two : IsSecond c.args.rates.now (slice_index c.args.days.now) (slice_index c.args.self.now) c.requires.room (slice_index c.or_paid-saved.result) within
    (slice_index c.or_paid-saved-2.result) = second_is c.args.rates.now (slice_index c.args.days.now) (slice_index c.args.self.now) c.requires.room
    (slice_index c.or_paid-saved.result) within (slice_index c.or_paid-saved-2.result) (slice_index (c.or_paid-saved.result ++ c.or_paid-saved.result) 0) (slice_index
    (c.or_paid-saved.result ++ c.or_paid-saved.result) 1)
    (lane_of c.or_paid-saved.result c.or_paid-saved.result 0 c.or_paid-saved.ensures.lanes (omega arith))
    (lane_of c.or_paid-saved.result c.or_paid-saved.result 1 c.or_paid-saved.ensures.lanes (omega arith))
    c.or_paid-saved-2.ensures.each in
    let also : IsWithin c.args.rates.now (slice_index c.args.days.now) (slice_index c.args.self.now) c.requires.room
    (slice_index c.or_paid-saved-2.result) = second_within c.args.rates.now (slice_index c.args.days.now) (slice_index c.args.self.now) c.requires.room
    (slice_index c.or_paid-saved.result) within (slice_index c.or_paid-saved-2.result) two in
    first_fits c.args.rates.now (slice_index c.args.days.now) (slice_index c.args.self.now) c.requires.room (slice_index c.or_paid-saved-2.result) also (slice_index
    (c.or_paid-saved-2.result ++ c.or_paid-saved-2.result) 0) (slice_index (c.or_paid-saved-2.result ++ c.or_paid-saved-2.result) 2)
    (lane_of c.or_paid-saved-2.result c.or_paid-saved-2.result 0 c.or_paid-saved-2.ensures.lanes (omega arith))
    (lane_of c.or_paid-saved-2.result c.or_paid-saved-2.result 2 c.or_paid-saved-2.ensures.lanes (omega arith))

pub returns : goal.returns
returns c =
    let begun : IsWithin c.args.rates.now (slice_index c.args.days.now) (slice_index c.args.self.now) c.requires.room
    (slice_index c.args.self.now) = alone_within c.args.rates.now (slice_index c.args.days.now) (slice_index c.args.self.now) c.requires.room in
    let one : IsFirst c.args.rates.now (slice_index c.args.days.now) (slice_index c.args.self.now) c.requires.room (slice_index c.args.self.now) begun
    (slice_index c.or_paid-saved.result) = first_is c.args.rates.now (slice_index c.args.days.now) (slice_index c.args.self.now) c.requires.room
    (slice_index c.args.self.now) begun (slice_index c.or_paid-saved.result) (slice_index (c.args.self.now ++ c.args.self.now) 0) (slice_index
    (c.args.self.now ++ c.args.self.now) 2)
    (lane_of c.args.self.now c.args.self.now 0 c.told-self (omega arith)) (lane_of c.args.self.now c.args.self.now 2 c.told-self (omega arith))
    c.or_paid-saved.ensures.each in
    let within : IsWithin c.args.rates.now (slice_index c.args.days.now) (slice_index c.args.self.now) c.requires.room
    (slice_index c.or_paid-saved.result) = first_within c.args.rates.now (slice_index c.args.days.now) (slice_index c.args.self.now) c.requires.room
    (slice_index c.args.self.now) begun (slice_index c.or_paid-saved.result) one in
    let two : IsSecond c.args.rates.now (slice_index c.args.days.now) (slice_index c.args.self.now) c.requires.room (slice_index c.or_paid-saved.result) within
    (slice_index c.or_paid-saved-2.result) = second_is c.args.rates.now (slice_index c.args.days.now) (slice_index c.args.self.now) c.requires.room
    (slice_index c.or_paid-saved.result) within (slice_index c.or_paid-saved-2.result) (slice_index (c.or_paid-saved.result ++ c.or_paid-saved.result) 0) (slice_index
    (c.or_paid-saved.result ++ c.or_paid-saved.result) 1)
    (lane_of c.or_paid-saved.result c.or_paid-saved.result 0 c.or_paid-saved.ensures.lanes (omega arith))
    (lane_of c.or_paid-saved.result c.or_paid-saved.result 1 c.or_paid-saved.ensures.lanes (omega arith))
    c.or_paid-saved-2.ensures.each in
    let also : IsWithin c.args.rates.now (slice_index c.args.days.now) (slice_index c.args.self.now) c.requires.room
    (slice_index c.or_paid-saved-2.result) = second_within c.args.rates.now (slice_index c.args.days.now) (slice_index c.args.self.now) c.requires.room
    (slice_index c.or_paid-saved.result) within (slice_index c.or_paid-saved-2.result) two in
    three_steps c.args.rates.now (slice_index c.args.days.now) (slice_index c.args.self.now) c.requires.room (slice_index c.or_paid-saved.result)
    (slice_index c.or_paid-saved-2.result) (slice_index c.or_paid.result) one within two also
    (first_is c.args.rates.now (slice_index c.args.days.now) (slice_index c.args.self.now) c.requires.room (slice_index c.or_paid-saved-2.result) also
    (slice_index c.or_paid.result) (slice_index (c.or_paid-saved-2.result ++ c.or_paid-saved-2.result) 0) (slice_index
    (c.or_paid-saved-2.result ++ c.or_paid-saved-2.result) 2)
    (lane_of c.or_paid-saved-2.result c.or_paid-saved-2.result 0 c.or_paid-saved-2.ensures.lanes (omega arith))
    (lane_of c.or_paid-saved-2.result c.or_paid-saved-2.result 2 c.or_paid-saved-2.ensures.lanes (omega arith))
    c.or_paid.ensures.each)
