use Rattle.std.proofs.Common.{◌≡◌, ◌≤◌, ◌+◌, ◌∷◌, [], true, false, cond, drop, length}
use Rattle.strip_proof.proofs.read.Lines.{AreRead}
use Rattle.strip_proof.proofs.line_rows.read_all_lines.Given as goal

abbrev pub invariant-loop-there : goal.invariant-loop-there
invariant-loop-there l = record {
  read : AreRead 6 l.fn.rows.left (length l.lines.items) l.lines.items;
  few : length l.lines.items ≤ 16_777_216;
  here : l.there ≡ true → drop (length l.lines.items) l.fn.rows.left ≡ l.row ∷ l.rows.left;
  ended : l.there ≡ false → drop (length l.lines.items) l.fn.rows.left ≡ [];
}

abbrev pub decreases-loop-there : goal.decreases-loop-there
decreases-loop-there l = cond l.there (length l.rows.left + 1) 0
