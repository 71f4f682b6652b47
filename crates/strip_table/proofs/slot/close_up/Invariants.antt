use Rattle.std.proofs.Common.{◌≡◌, ◌≤◌, ◌++◌, take, drop, length}
use Rattle.std.specs.List.{remove}
use Rattle.strip_table.proofs.slot.close_up.Given as goal

-- up to here the list without the place, and from here on as it was
abbrev pub invariant-loop-to : goal.invariant-loop-to
invariant-loop-to g l = record {
  long : length l.list ≡ 4;
  from : l.fn.place ≤ l.to;
  closed : l.list ≡ take l.to (remove l.initial.list l.fn.place) ++ drop l.to l.initial.list;
}
