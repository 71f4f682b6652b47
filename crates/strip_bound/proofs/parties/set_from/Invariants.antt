use Rattle.std.proofs.Common.{◌≡◌, ◌+◌, ◌-◌, ◌≤◌, drop, fold, take}
use Rattle.strip_mask.specs.Set.{with}
use Rattle.strip_bound.specs.Bounds.{set_of}
use Rattle.strip_bound.proofs.parties.set_from.Given as goal

-- with those of the places to come the set is whole
abbrev pub invariant-loop-place : goal.invariant-loop-place
invariant-loop-place l = record {
  from : l.from ≤ l.place;
  whole : fold with l.set.0 (take (l.from + l.count - l.place) (drop l.place l.actors)) ≡ set_of (take l.fn.count (drop l.fn.from l.fn.actors));
}
