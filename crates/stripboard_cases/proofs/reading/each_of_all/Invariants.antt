use Rattle.std.proofs.Common.{◌<◌}
use Rattle.stripboard_cases.proofs.reading.each_of_all.Given as goal

abbrev pub invariant-loop-line : goal.invariant-loop-line
invariant-loop-line l = 0 < l.count
