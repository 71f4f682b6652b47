use Rattle.std.proofs.Common.{◌≡◌, map}
use Rattle.strip_steal.specs.Seat.{QueueId, queue_of, share_of}
use Rattle.strip_steal.specs.Steps.{lightened, split_off}
use Rattle.strip_steal.specs.Taker.{pool_queues, pool_shares}
use Rattle.strip_steal.proofs.Fronts.{changed, made}
use Rattle.strip_steal.proofs.queues.Pool.seats.Given as goal

abbrev pub invariant-loop-place : goal.invariant-loop-place
invariant-loop-place l =
    (l.self.count ≡ l.initial.self.count) × (pool_queues l.self ≡ pool_queues l.initial.self)
    × (pool_shares l.self ≡ changed lightened l.place (pool_shares l.initial.self))
    × (map queue_of l.seats.items ≡ made (λ (queue : QueueId). queue) l.place (pool_queues l.initial.self))
    × (map share_of l.seats.items ≡ made split_off l.place (pool_shares l.initial.self))
