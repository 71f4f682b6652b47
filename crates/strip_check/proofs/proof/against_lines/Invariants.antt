use Rattle.std.proofs.Common.{◌≡◌, None}
use Rattle.strip_text.specs.Checks.{below, first_fault}
use Rattle.strip_lines.specs.Lines.{rules_of}
use Rattle.strip_memo.specs.Memo.{IsMemo}
use Rattle.strip_check.specs.Reasons.{line_check}
use Rattle.strip_check.proofs.proof.against_lines.Given as goal

-- the lines so far are justified
abbrev pub invariant-loop-place : goal.invariant-loop-place
invariant-loop-place g l = record {
  pass : first_fault (below l.place (line_check (rules_of g.B.Bounds.kind g.B.Bounds.film) l.lines)) ≡ None;
}
