use Rattle.std.proofs.Common.{◌≡◌, take}
use Rattle.stripboard_cases.specs.CaseRows.{case_lines}
use Rattle.stripboard_cases.proofs.blocks.before_case.Given as goal

abbrev pub invariant-loop-place : goal.invariant-loop-place
invariant-loop-place l = case_lines (take l.place l.lines) ≡ 0
