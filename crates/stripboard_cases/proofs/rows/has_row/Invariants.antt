use Rattle.std.proofs.Common.{length}
use Rattle.stripboard_cases.proofs.Fronts.{IsRest}
use Rattle.stripboard_cases.proofs.rows.has_row.Given as goal

abbrev pub invariant-loop-first : goal.invariant-loop-first
invariant-loop-first l = IsRest l.text l.rest

abbrev pub decreases-loop-first : goal.decreases-loop-first
decreases-loop-first l = length l.rest
