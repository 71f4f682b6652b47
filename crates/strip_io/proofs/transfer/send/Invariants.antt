use Rattle.std.proofs.Common.{◌≡◌, ℕ, List, ◌++◌, length}
use Rattle.strip_io.specs.Sink.{Took}
use Rattle.strip_io.proofs.transfer.send.Given as goal

abbrev pub invariant-loop-rest : goal.invariant-loop-rest
invariant-loop-rest g l = record {
  unfailed : (g.S.Sink.state l.out).faults ≡ (g.S.Sink.state l.fn.out).faults;
  parts : (sent : List ℕ) × (sent ++ l.rest ≡ l.fn.text) × Took (g.S.Sink.state l.fn.out).taken (g.S.Sink.state l.out).taken sent;
}

abbrev pub decreases-loop-rest : goal.decreases-loop-rest
decreases-loop-rest g l = length l.rest
