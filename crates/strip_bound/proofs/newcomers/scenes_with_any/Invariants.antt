use Rattle.std.proofs.Common.{◌≡◌, ◌++◌, fold, slice_index}
use Rattle.strip_mask.specs.Set.{members, union}
use Rattle.strip_mask.specs.Iter.{rest_of}
use Rattle.strip_bound.proofs.newcomers.scenes_with_any.Given as goal

-- the scenes with the actors so far; these and those to come are all
abbrev pub invariant-loop-actor : goal.invariant-loop-actor
invariant-loop-actor l = record {
  scenes : l.scenes.0 ≡ fold (λ set actor. union set (slice_index l.tables.plays.items actor)) 0 l.yielded;
  turns : l.yielded ++ rest_of l.actor-iterator ≡ members l.fn.actors.0;
}
