use Rattle.std.proofs.Common.{◌≤◌, map}
use Rattle.std.specs.List.{count_by}
use Rattle.stripboard_cases.specs.CaseRows.{case_lines, is_case_row}
use Rattle.stripboard_cases.proofs.lines.lines_of.Given as goal

abbrev pub invariant-loop-text : goal.invariant-loop-text
invariant-loop-text l = count_by is_case_row (map (λ text. text.now) l.yielded) ≤ case_lines l.lines.items
