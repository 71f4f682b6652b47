use Rattle.strip_trim.proofs.Placed.{ArePlacedUpTo}
use Rattle.strip_trim.proofs.best.placed.Given as goal

abbrev pub invariant-loop-line : goal.invariant-loop-line
invariant-loop-line l = ArePlacedUpTo l.line l.lines l.placed.items
