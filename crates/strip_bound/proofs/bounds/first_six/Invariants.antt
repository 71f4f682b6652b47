use Rattle.std.proofs.Common.{◌≡◌, ℕ, ◌-◌, ◌≤◌, true, drop, fold, take}
use Rattle.strip_mask.specs.Set.{has, members, size, with}
use Rattle.strip_bound.specs.Bounds.{set_of}
use Rattle.strip_bound.proofs.bounds.first_six.Given as goal

-- what is taken in the turns to come makes the group whole, and leaves the rest
abbrev pub invariant-loop-turn : goal.invariant-loop-turn
invariant-loop-turn l = record {
  group : fold with l.group.0 (take (6 - l._turn) (members l.left.0)) ≡ set_of (take 6 (members l.fn.set.0));
  rest : drop (6 - l._turn) (members l.left.0) ≡ drop 6 (members l.fn.set.0);
  few : size l.group.0 ≤ l._turn;
  within : (number : ℕ) → has l.left.0 number ≡ true → has l.fn.set.0 number ≡ true;
}
