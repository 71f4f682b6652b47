use Rattle.std.proofs.Common.{rules}
use Rattle.stripboard_cases.proofs.CaseLines.{product_some}
use Rattle.stripboard_cases.proofs.reading.each_of_all.Goals as goal

pub loop-line-preserved : goal.loop-line-preserved
loop-line-preserved c = product_some c.loop-line.count c.len.result c.saturating_mul-count.result c.loop-line.invariant (search rules) c.saturating_mul-count.ensures
