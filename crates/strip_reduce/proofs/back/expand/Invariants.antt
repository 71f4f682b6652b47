use Rattle.std.proofs.Common.{◌≡◌, take}
use Rattle.strip_reduce.specs.Shown.{reduced_data}
use Rattle.strip_reduce.specs.State.{way_back}
use Rattle.strip_reduce.proofs.back.expand.Given as goal

-- the way back of the order so far
abbrev pub invariant-loop-class : goal.invariant-loop-class
invariant-loop-class l = l.scenes.items ≡ way_back (reduced_data l.reduced).members (take l.class-index l.order)
