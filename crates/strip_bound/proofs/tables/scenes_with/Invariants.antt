use Rattle.strip_bound.proofs.Weights.{Tells}
use Rattle.strip_bound.proofs.tables.scenes_with.Given as goal

-- the scenes with the actor among those so far
abbrev pub invariant-loop-scene : goal.invariant-loop-scene
invariant-loop-scene l = record { tells : Tells l.casts l.fn.actor l.scenes.0 l.scene }
