use Rattle.std.proofs.Common.{◌≡◌, ◌++◌, count_by}
use Rattle.strip_mask.specs.Set.{members}
use Rattle.strip_mask.specs.Iter.{rest_of}
use Rattle.strip_model.specs.Pay.{works}
use Rattle.strip_film.proofs.running.scenes_with.Given as goal

-- the count of the scenes so far; these and those to come are the set
abbrev pub invariant-loop-scene : goal.invariant-loop-scene
invariant-loop-scene l = record {
  count : l.count ≡ count_by (works l.film l.fn.actor) l.yielded;
  turns : l.yielded ++ rest_of l.scene-iterator ≡ members l.fn.q.0;
}
