use Rattle.std.proofs.Common.{◌≡◌, take}
use Rattle.strip_lines.specs.Lines.{known, rules_of}
use Rattle.strip_worker.proofs.ending.known_of_all.Given as goal

-- what the lines so far make known
abbrev pub invariant-loop-line : goal.invariant-loop-line
invariant-loop-line g l = l.greatest ≡ known (rules_of g.B.Bounds.kind g.B.Bounds.film) (take l.line-index l.lines) l.all.0
