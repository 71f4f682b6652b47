use Rattle.std.proofs.Common.{◌≡◌, ℕ, ◌++◌, true, Contains, slice_index}
use Rattle.strip_mask.specs.Set.{has, members}
use Rattle.strip_mask.specs.Iter.{rest_of}
use Rattle.strip_arrivals.proofs.crew.works_in.Given as goal

-- the places in the scenes so far
abbrev pub invariant-loop-scene : goal.invariant-loop-scene
invariant-loop-scene l = record {
  some : (place : ℕ) → has l.places.0 place ≡ true → (scene : ℕ) × Contains l.yielded scene × (has (slice_index l.casts scene) place ≡ true);
  all : (scene place : ℕ) → Contains l.yielded scene → has (slice_index l.casts scene) place ≡ true → has l.places.0 place ≡ true;
  turns : l.yielded ++ rest_of l.scene-iterator ≡ members l.fn.scenes.0;
}
