use Rattle.std.proofs.Common.{◌≡◌, filter, take}
use Rattle.strip_mask.specs.Set.{has}
use Rattle.strip_bound.proofs.parties.located.Given as goal

-- those so far who are on location
abbrev pub invariant-loop-actor : goal.invariant-loop-actor
invariant-loop-actor l = l.located.items ≡ filter (has l.on.0) (take l.actor-index l.tables.by_hold.items)
