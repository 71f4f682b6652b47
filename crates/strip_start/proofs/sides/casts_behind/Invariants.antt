use Rattle.std.proofs.Common.{◌≡◌, ℕ, ◌+◌, ◌<◌, ◌≤◌, length, drop, slice_index}
use Rattle.strip_start.specs.Sides.{cast_along}
use Rattle.strip_start.proofs.sides.casts_behind.Given as goal

-- who works in the scenes from here on, and for each of them who works behind it
abbrev pub invariant-loop-place : goal.invariant-loop-place
invariant-loop-place l = record {
  size : length l.behind ≡ 64;
  cast : l.cast.0 ≡ cast_along l.film (drop l.place l.scenes);
  each : (place : ℕ) → l.place ≤ place → place < length l.scenes → slice_index l.behind place ≡ cast_along l.film (drop (place + 1) l.scenes);
}
