use Rattle.std.proofs.Common.{◌≡◌, ℕ, ◌<◌, length, slice_index}
use Rattle.strip_bound.specs.Bounds.{left_at, newcomers_at}
use Rattle.strip_bound.proofs.newcomers.Choices.of.Given as goal

-- the choices of the parties so far, and who is left
abbrev pub invariant-loop-place : goal.invariant-loop-place
invariant-loop-place l = record {
  left : l.left.0 ≡ left_at l.here.film.now l.here.q.0 l.many l.place;
  firsts : length l.choices.first ≡ 10;
  boths : length l.choices.both ≡ 10;
  first : (place : ℕ) → place < l.place → slice_index l.choices.first place ≡ newcomers_at l.here.film.now l.here.q.0 l.many 1 place;
  both : (place : ℕ) → place < l.place → slice_index l.choices.both place ≡ newcomers_at l.here.film.now l.here.q.0 l.many 2 place;
}
