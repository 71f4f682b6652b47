use Rattle.std.proofs.Common.{◌≡◌, ℕ, ◌+◌, ◌++◌, length, slice_index}
use Rattle.strip_mask.specs.Set.{has, members}
use Rattle.strip_mask.specs.Iter.{rest_of}
use Rattle.strip_model.proofs.Counts.{count}
use Rattle.strip_mask.proofs.Sizes.{mark}
use Rattle.strip_film.proofs.running.move_counts.Given as goal

-- who is still to come has his scene where it was, and who has come has it in the other count
abbrev pub invariant-loop-actor : goal.invariant-loop-actor
invariant-loop-actor l = record {
  long_from : length l.from ≡ 64;
  long_to : length l.to ≡ 64;
  turns : l.yielded ++ rest_of l.actor-iterator ≡ members l.fn.cast.0;
  from : (actor : ℕ) → slice_index l.from actor + mark (has l.fn.cast.0 actor) ≡ slice_index l.fn.from actor + count actor (rest_of l.actor-iterator);
  to : (actor : ℕ) → slice_index l.to actor + count actor (rest_of l.actor-iterator) ≡ slice_index l.fn.to actor + mark (has l.fn.cast.0 actor);
}
