use Rattle.strip_lines.specs.Lines.{rules_of}
use Rattle.strip_memo.specs.Memo.{IsMemo}
use Rattle.strip_trim.proofs.Reached.{IsUnderWay}
use Rattle.strip_trim.proofs.marks.mark_reached.Given as goal

abbrev pub invariant-loop-entry : goal.invariant-loop-entry
invariant-loop-entry g l = record {
  way : IsUnderWay (rules_of g.B.Bounds.kind g.B.Bounds.film) l.best.lines l.best.entries l.entry-iterator.iter.rest.now l.marks;
}
