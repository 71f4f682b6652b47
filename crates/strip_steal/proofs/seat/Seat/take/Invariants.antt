use Rattle.std.proofs.Common.{◌≡◌, false}
use Rattle.strip_steal.specs.Seat.{queue_of, share_of}
use Rattle.strip_steal.proofs.seat.Seat.take.Given as goal

abbrev pub invariant-loop-turn : goal.invariant-loop-turn
invariant-loop-turn g l = (queue_of l.self ≡ queue_of l.initial.self) × (share_of l.self ≡ share_of l.initial.self) × (l.self.has_ended ≡ false)
