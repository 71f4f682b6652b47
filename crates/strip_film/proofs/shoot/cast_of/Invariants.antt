use Rattle.std.proofs.Common.{◌≡◌, ◌++◌, fold, slice_index}
use Rattle.strip_mask.specs.Set.{members, union}
use Rattle.strip_mask.specs.Iter.{rest_of}
use Rattle.strip_film.proofs.shoot.cast_of.Given as goal

-- the cast of the scenes so far; these and those to come are the set
abbrev pub invariant-loop-scene : goal.invariant-loop-scene
invariant-loop-scene l = record {
  cast : l.cast.0 ≡ fold (λ cast scene. union cast (slice_index l.film.casts scene)) 0 l.yielded;
  turns : l.yielded ++ rest_of l.scene-iterator ≡ members l.fn.q.0;
}
