use Rattle.std.proofs.Common.{◌≡◌, drop}
use Rattle.strip_proof.proofs.read.Lines.{AreRead}
use Rattle.strip_proof.proofs.line_rows.read_counted_lines.Given as goal

abbrev pub invariant-loop-place : goal.invariant-loop-place
invariant-loop-place l = record {
  read : AreRead 9 l.fn.rows.left l.place l.lines.items;
  left : l.rows.left ≡ drop l.place l.fn.rows.left;
}
