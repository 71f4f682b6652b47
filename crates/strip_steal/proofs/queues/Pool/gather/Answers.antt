use Rattle.std.proofs.Common.{arith}
use Rattle.strip_steal.specs.Taker.{pool_shares, taker_shares}
use Rattle.strip_steal.proofs.Handed.{weigh-some}
use Rattle.strip_steal.proofs.Joins.{gathers}
use Rattle.strip_steal.proofs.queues.Pool.gather.Goals as goal

pub returns-clause-gathered : goal.returns-clause-gathered
returns-clause-gathered c =
    gathers c.args.self.now c.take_in.new.self c.args.taker c.requires.pool.0 c.requires.pool.1 c.requires.taker c.requires.same c.take_in.ensures.count c.take_in.ensures.queues
    c.take_in.ensures.joined

pub take_in-requires-clause-weight : goal.take_in-requires-clause-weight
take_in-requires-clause-weight c = weigh-some c.requires.pool.0 (pool_shares c.args.self.now) c.requires.pool.2 c.requires.pool.1.shares

pub take_in-requires-clause-other : goal.take_in-requires-clause-other
take_in-requires-clause-other c = weigh-some 1 (taker_shares c.args.taker) (omega arith) c.requires.taker.shares
