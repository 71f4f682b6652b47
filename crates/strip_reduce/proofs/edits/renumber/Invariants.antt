use Rattle.std.proofs.Common.{◌≡◌, ◌++◌, drop, map, take}
use Rattle.strip_reduce.specs.Steps.{renumbered_pair}
use Rattle.strip_reduce.proofs.edits.renumber.Given as goal

abbrev pub invariant-loop-pair : goal.invariant-loop-pair
invariant-loop-pair l = l.pairs ≡ map (renumbered_pair l.gone) (take l.pair-index l.fn.pairs) ++ drop l.pair-index l.fn.pairs
