use Rattle.std.proofs.Common.{◌≡◌}
use Rattle.strip_reduce.proofs.Days.{days_below}
use Rattle.strip_reduce.proofs.edits.work_days.Given as goal

-- his days in the scenes so far
abbrev pub invariant-loop-scene : goal.invariant-loop-scene
invariant-loop-scene l = l.total ≡ days_below l.casts l.days l.scene l.actor
