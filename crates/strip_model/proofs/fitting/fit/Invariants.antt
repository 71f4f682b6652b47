use Rattle.std.proofs.Common.{take}
use Rattle.strip_model.specs.Befores.{Knows}
use Rattle.strip_model.specs.Pairs.{FitPairs}
use Rattle.strip_model.proofs.fitting.fit.Given as goal

abbrev pub invariant-loop-pair : goal.invariant-loop-pair
invariant-loop-pair l = record {
  knows : Knows l.befores (take l.pair-index l.pairs);
  fit : FitPairs l.scenes (take l.pair-index l.pairs);
}
