use Rattle.std.proofs.Common.{◌≡◌, ◌≤◌, ◌==◌, ◌-◌, true, length, take, drop}
use Rattle.std.specs.List.{list_all}
use Rattle.strip_instance.proofs.befores.ends_behind_third.Given as goal

abbrev pub invariant-loop-place : goal.invariant-loop-place
invariant-loop-place l = record {
  least : 3 ≤ l.place;
  empty : list_all (λ field. length field == 0) (take (l.place - 3) (drop 3 l.row)) ≡ true;
}
