use Rattle.std.proofs.Common.{◌≡◌, ◌++◌, List, length, map}
use Rattle.strip_steal.specs.declared.seat.Seat.{Seat}
use Rattle.strip_steal.specs.Seat.{share_of}
use Rattle.strip_steal.specs.Steps.{AreJoined}
use Rattle.strip_steal.specs.Taker.{pool_queues, pool_shares}
use Rattle.strip_steal.proofs.queues.Pool.take_in.Given as goal

abbrev pub decreases-loop-seat : goal.decreases-loop-seat
decreases-loop-seat l = length l.seats.items

abbrev pub invariant-loop-seat : goal.invariant-loop-seat
invariant-loop-seat l =
    (l.self.count ≡ l.initial.self.count) × (pool_queues l.self ≡ pool_queues l.initial.self) × ((rest : List Seat) × (l.seats.items ++ rest ≡ l.initial.seats.items))
    × AreJoined (pool_shares l.initial.self) (map share_of l.initial.seats.items) (length l.seats.items) (pool_shares l.self)
