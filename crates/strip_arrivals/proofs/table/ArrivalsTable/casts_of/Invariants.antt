use Rattle.std.proofs.Common.{◌≡◌, ℕ, ◌<◌, ◌++◌, true, length, slice_index}
use Rattle.strip_mask.specs.Set.{LiesBelow, has, members}
use Rattle.strip_mask.specs.Iter.{rest_of}
use Rattle.strip_group.specs.Places.{actor_at}
use Rattle.strip_arrivals.proofs.table.ArrivalsTable.casts_of.Given as goal

-- the places so far; these actors and those to come are the group
abbrev pub invariant-loop-actor : goal.invariant-loop-actor
invariant-loop-actor l = record {
  long : length l.casts ≡ 64;
  place : l.place ≡ length l.yielded;
  told : (scene place : ℕ) → has l.set.0 scene ≡ true → place < l.place
      → has (slice_index l.casts scene) place ≡ has (slice_index l.self.casts scene) (actor_at l.fn.group.0 place);
  lies : (scene : ℕ) → LiesBelow l.place (slice_index l.casts scene);
  turns : l.yielded ++ rest_of l.actor-iterator ≡ members l.fn.group.0;
}
