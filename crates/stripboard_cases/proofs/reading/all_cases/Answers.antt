use Rattle.std.proofs.Common.{◌+◌, ◌≤◌, arith}
use Rattle.stripboard_cases.specs.CaseRows.{case_lines}
use Rattle.stripboard_cases.proofs.CaseLines.{case_lines_from}
use Rattle.stripboard_cases.proofs.reading.all_cases.Goals as goal

pub loop-rest-preserved : goal.loop-rest-preserved
loop-rest-preserved c =
    let fewer : case_lines c.loop-rest.rest.now ≤ 1 + case_lines c.split_at.result.1.now =
    case_lines_from c.loop-rest.rest.now _ c.head-item.result c.before_case.result _ c.in-len1-up.len_at_least (omega arith) c.before_case.ensures.none c.split_at.ensures.back in
    omega (arith, fewer, c.in_ok-push_cases.ensures, c.loop-rest.invariant)
