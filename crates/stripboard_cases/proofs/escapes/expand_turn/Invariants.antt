use Rattle.std.proofs.Common.{length}
use Rattle.stripboard_cases.proofs.escapes.expand_turn.Given as goal

abbrev pub decreases-loop-rest : goal.decreases-loop-rest
decreases-loop-rest l = length l.rest
