use Rattle.std.proofs.Common.{◌≡◌, ℕ, ◌<◌, ◌++◌, cond, length, slice_index}
use Rattle.strip_mask.specs.Set.{has, members, with}
use Rattle.strip_mask.specs.Iter.{rest_of}
use Rattle.strip_arrivals.specs.Arrivals.{actors_of}
use Rattle.strip_arrivals.proofs.crew.add_place.Given as goal

-- the place is in the casts of the scenes so far
abbrev pub invariant-loop-scene : goal.invariant-loop-scene
invariant-loop-scene l = record {
  long : length l.casts ≡ 64;
  small : (scene : ℕ) → slice_index l.casts scene < 1024;
  told : (scene : ℕ) → slice_index l.casts scene ≡ cond {A = ℕ} (has (actors_of l.yielded) scene) (with (slice_index l.initial.casts scene) l.fn.place) (slice_index l.initial.casts scene);
  turns : l.yielded ++ rest_of l.scene-iterator ≡ members l.fn.scenes.0;
}
