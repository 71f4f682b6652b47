use Rattle.std.proofs.Common.{◌+◌, ◌≤◌, length, vec_len}
use Rattle.stripboard_cases.specs.CaseRows.{case_lines}
use Rattle.stripboard_cases.proofs.reading.all_cases.Given as goal

abbrev pub invariant-loop-rest : goal.invariant-loop-rest
invariant-loop-rest l = case_lines l.fn.lines ≤ vec_len l.cases + case_lines l.rest

abbrev pub decreases-loop-rest : goal.decreases-loop-rest
decreases-loop-rest l = length l.rest
