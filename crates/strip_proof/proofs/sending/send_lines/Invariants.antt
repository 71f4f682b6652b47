use Rattle.std.proofs.Common.{◌≡◌, ℕ, List, ◌++◌, take}
use Rattle.strip_io.specs.Sink.{Took}
use Rattle.strip_proof.specs.Rows.{lines_text}
use Rattle.strip_proof.proofs.sending.send_lines.Given as goal

abbrev pub invariant-loop-line : goal.invariant-loop-line
invariant-loop-line g l = record {
  unfailed : (g.S.Sink.state l.out).faults ≡ (g.S.Sink.state l.fn.out).faults;
  parts : (sent : List ℕ) × (sent ++ l.chunk ≡ lines_text (take l.line-index l.lines)) × Took (g.S.Sink.state l.fn.out).taken (g.S.Sink.state l.out).taken sent;
}
