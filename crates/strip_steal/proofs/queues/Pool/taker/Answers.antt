use Rattle.std.proofs.Common.{◌∙◌, ap, suc}
use Rattle.strip_steal.specs.declared.taker.Taker.{Taker}
use Rattle.strip_steal.specs.Rule.{times}
use Rattle.strip_steal.specs.Taker.{have_ended, pool_shares, puts, taken_in}
use Rattle.strip_steal.proofs.Handed.{weigh-two}
use Rattle.strip_steal.proofs.Starts.{ended-lighter, lighter_pool, new_taker, puts-lighter, puts-new, taken-lighter, taken-new}
use Rattle.strip_steal.proofs.queues.Pool.taker.Goals as goal

pub seats-requires : goal.seats-requires
seats-requires c = record { weight = weigh-two c.requires.pool.0 (pool_shares c.args.self.now) c.requires.pool.1.shares }

pub returns-clause-taker : goal.returns-clause-taker
returns-clause-taker c =
    let taker : Taker = record { place = c.args.place; seats = c.in_ok-seats.seats; taken = c.in_ok-taken.taken } in
    new_taker c.args.self.now (suc (suc c.requires.pool.0)) taker c.requires.pool.1 c.requires.place c.in_ok-seats.ensures.seats c.in_ok-seats.ensures.shares
    c.in_ok-taken.ensures.items c.in_ok-taken.ensures.exact

pub returns-clause-same : goal.returns-clause-same
returns-clause-same c = record { queues = c.in_ok-seats.ensures.seats; puts = ap puts c.in_ok-seats.ensures.shares ∙ puts-new (pool_shares c.args.self.now) }

pub returns-clause-unused : goal.returns-clause-unused
returns-clause-unused c =
    (c.in_ok-taken.ensures.items, λ number. ap (λ l. times number (taken_in l)) c.in_ok-seats.ensures.shares ∙ ap (times number) (taken-new (pool_shares c.args.self.now)))

pub returns-clause-weight : goal.returns-clause-weight
returns-clause-weight c = λ weight is. lighter_pool c.args.self.now c.seats.new.self weight is c.seats.ensures.count c.seats.ensures.queues c.in_ok-seats.ensures.lighter

pub returns-clause-stays : goal.returns-clause-stays
returns-clause-stays c = record { queues = c.seats.ensures.queues; puts = ap puts c.in_ok-seats.ensures.lighter ∙ puts-lighter (pool_shares c.args.self.now) }

pub returns-clause-taken : goal.returns-clause-taken
returns-clause-taken c =
    λ number. ap (λ l. times number (taken_in l)) c.in_ok-seats.ensures.lighter ∙ ap (times number) (taken-lighter (pool_shares c.args.self.now))

pub returns-clause-ended : goal.returns-clause-ended
returns-clause-ended c = ap have_ended c.in_ok-seats.ensures.lighter ∙ ended-lighter (pool_shares c.args.self.now)
