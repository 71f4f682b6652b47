use Rattle.std.proofs.Common.{length}
use Rattle.stripboard_cases.proofs.differing.other_row.Given as goal

abbrev pub decreases-loop-row : goal.decreases-loop-row
decreases-loop-row l = length l.left
