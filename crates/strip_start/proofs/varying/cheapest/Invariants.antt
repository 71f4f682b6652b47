use Rattle.std.specs.Prelude.{◌∷◌, take}
use Rattle.strip_start.specs.Runs.{IsCheapest}
use Rattle.strip_start.proofs.varying.cheapest.Given as goal

abbrev pub invariant-loop-path : goal.invariant-loop-path
invariant-loop-path l = IsCheapest (l.start ∷ take l.path-index l.paths) l.best
