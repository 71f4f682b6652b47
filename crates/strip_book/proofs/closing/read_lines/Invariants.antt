use Rattle.std.proofs.Common.{◌≡◌, ℕ, ◌<◌, length}
use Rattle.std.specs.Mem.Slots.{slots_items}
use Rattle.strip_lines.specs.Lines.{line_at}
use Rattle.strip_book.proofs.Closed.{line_in}
use Rattle.strip_book.proofs.closing.read_lines.Given as goal

abbrev pub invariant-loop-number : goal.invariant-loop-number
invariant-loop-number l = record {
  count : length l.lines.items ≡ l.number;
  lines : (number : ℕ) → number < l.number → line_at l.lines.items number ≡ line_in (slots_items l.fn.closed.words) number;
}
