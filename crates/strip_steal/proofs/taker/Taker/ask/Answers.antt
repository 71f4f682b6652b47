use Rattle.std.proofs.Common.{arith}
use Rattle.crossbeam_deque.proofs.Lists.{at_index, at_map}
use Rattle.strip_steal.specs.Seat.{share_of, queue_of}
use Rattle.strip_steal.specs.Taker.{IsShare, taker_shares}
use Rattle.strip_steal.proofs.Asks.{asked}
use Rattle.strip_steal.proofs.Places.{at_of_all, map_same}
use Rattle.strip_steal.proofs.taker.Taker.ask.Goals as goal

pub take-requires-clause-some_weight : goal.take-requires-clause-some_weight
take-requires-clause-some_weight g c =
    let is = at_of_all (IsShare 1) (taker_shares c.args.self.now) c.requires.shares.each c.args.from (share_of c.index_mut.result.now)
    (at_map share_of c.args.self.now.seats.items c.args.from c.index_mut.result.now
    (at_index c.args.self.now.seats.items c.args.from c.index_mut.result.now c.requires.within c.index_mut.ensures.value)) in
    omega (arith, is.weighs)

pub take-requires-clause-closed : goal.take-requires-clause-closed
take-requires-clause-closed g c =
    (at_of_all (IsShare 1) (taker_shares c.args.self.now) c.requires.shares.each c.args.from (share_of c.index_mut.result.now)
    (at_map share_of c.args.self.now.seats.items c.args.from c.index_mut.result.now
    (at_index c.args.self.now.seats.items c.args.from c.index_mut.result.now c.requires.within c.index_mut.ensures.value))).closed

pub returns-clause-queues : goal.returns-clause-queues
returns-clause-queues g c =
    map_same queue_of c.args.self.now.seats.items c.args.from c.index_mut.result.now c.take.new.self
    (at_index c.args.self.now.seats.items c.args.from c.index_mut.result.now c.requires.within c.index_mut.ensures.value) c.take.ensures.queue

pub returns-clause-asked : goal.returns-clause-asked
returns-clause-asked g c = asked c.args.self.now.seats.items c.args.from c.index_mut.result.now c.take.new.self c.take.result
    (at_index c.args.self.now.seats.items c.args.from c.index_mut.result.now c.requires.within c.index_mut.ensures.value)
    c.take.ensures.ended c.take.ensures.taken c.take.ensures.kept
