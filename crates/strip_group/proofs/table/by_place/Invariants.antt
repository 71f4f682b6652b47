use Rattle.std.proofs.Common.{◌≡◌, ◌<◌, ◌≤◌, ◌++◌, ◌-◌, ◌^◌, ℕ, length, slice_index}
use Rattle.strip_mask.specs.Iter.{rest_of}
use Rattle.strip_mask.specs.Set.{members}
use Rattle.strip_group.specs.Places.{actor_at}
use Rattle.strip_group.proofs.table.by_place.Given as goal

-- the places so far; these actors and those to come are the group
abbrev pub invariant-loop-actor : goal.invariant-loop-actor
invariant-loop-actor l = record {
  stay_long : length l.stay_at ≡ 6;
  rate_long : length l.rate_at ≡ 6;
  place : l.place ≡ length l.yielded;
  stay : (place : ℕ) → place < l.place → slice_index l.stay_at place ≡ slice_index l.stays (actor_at l.fn.group.0 place);
  all_stay : (place : ℕ) → l.place ≤ place → place < 6 → slice_index l.stay_at place ≡ 2 ^ 64 - 1;
  rate : (place : ℕ) → place < l.place → slice_index l.rate_at place ≡ slice_index l.holds (actor_at l.fn.group.0 place);
  no_rate : (place : ℕ) → l.place ≤ place → place < 6 → slice_index l.rate_at place ≡ 0;
  turns : l.yielded ++ rest_of l.actor-iterator ≡ members l.fn.group.0;
}
