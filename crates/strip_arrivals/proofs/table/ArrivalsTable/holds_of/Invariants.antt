use Rattle.std.proofs.Common.{◌≡◌, ℕ, ◌<◌, ◌≤◌, ◌++◌, length, slice_index}
use Rattle.strip_mask.specs.Set.{members}
use Rattle.strip_mask.specs.Iter.{rest_of}
use Rattle.strip_group.specs.Places.{actor_at}
use Rattle.strip_arrivals.proofs.table.ArrivalsTable.holds_of.Given as goal

-- the places so far; these actors and those to come are the group
abbrev pub invariant-loop-actor : goal.invariant-loop-actor
invariant-loop-actor l = record {
  long : length l.holds ≡ 10;
  place : l.place ≡ length l.yielded;
  told : (place : ℕ) → place < l.place → slice_index l.holds place ≡ slice_index l.self.holds (actor_at l.fn.group.0 place);
  none : (place : ℕ) → l.place ≤ place → slice_index l.holds place ≡ 0;
  turns : l.yielded ++ rest_of l.actor-iterator ≡ members l.fn.group.0;
}
