use Rattle.std.proofs.Common.{◌≡◌, ◌++◌, map, take}
use Rattle.strip_reports.specs.Frame.{lines_text}
use Rattle.strip_reports.proofs.frame.push_lines.Given as goal

abbrev pub invariant-loop-line : goal.invariant-loop-line
invariant-loop-line l = l.page.items ≡ l.fn.page.items ++ lines_text (map (λ line. line.now) (take l.line-index l.lines))
