use Rattle.std.proofs.Common.{◌≡◌, ℕ, ◌<◌, length, take, slice_index}
use Rattle.strip_start.specs.Sides.{cast_along}
use Rattle.strip_start.proofs.sides.casts_before.Given as goal

-- who works in the scenes so far, and for each of them who works before it
abbrev pub invariant-loop-place : goal.invariant-loop-place
invariant-loop-place l = record {
  size : length l.before ≡ 64;
  cast : l.cast.0 ≡ cast_along l.film (take l.place l.scenes);
  each : (place : ℕ) → place < l.place → slice_index l.before place ≡ cast_along l.film (take place l.scenes);
}
