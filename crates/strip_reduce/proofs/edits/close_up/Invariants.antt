use Rattle.std.proofs.Common.{◌≡◌, ◌++◌, drop, take}
use Rattle.strip_reduce.specs.Steps.{casts_without}
use Rattle.strip_reduce.proofs.edits.close_up.Given as goal

abbrev pub invariant-loop-cast : goal.invariant-loop-cast
invariant-loop-cast l = l.casts ≡ casts_without (take l.cast-index l.fn.casts) l.actor ++ drop l.cast-index l.fn.casts
