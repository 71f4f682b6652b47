use Rattle.std.proofs.Common.{◌≡◌}
use Rattle.strip_steal.specs.Taker.{taker_queues, taker_shares}
use Rattle.strip_steal.proofs.Turns.{HasTurned}
use Rattle.strip_steal.proofs.taker.Taker.take.Given as goal

abbrev pub invariant-loop-turn : goal.invariant-loop-turn
invariant-loop-turn g l =
    (l.self.place ≡ l.initial.self.place) × (l.self.taken ≡ l.initial.self.taken) × (taker_queues l.self ≡ taker_queues l.initial.self)
    × HasTurned (taker_shares l.initial.self) l.initial.self.place l.turn (taker_shares l.self)
