use Rattle.std.proofs.Common.{◌≡◌, ℕ, ◌++◌, cond, length, slice_index}
use Rattle.strip_mask.specs.Set.{has, members}
use Rattle.strip_mask.specs.Iter.{rest_of}
use Rattle.strip_arrivals.specs.Arrivals.{actors_of}
use Rattle.strip_arrivals.proofs.crew.holds_at.Given as goal

-- what those at the places so far get
abbrev pub invariant-loop-place : goal.invariant-loop-place
invariant-loop-place l = record {
  long : length l.numbers ≡ 10;
  told : (place : ℕ) → slice_index l.numbers place ≡ cond {A = ℕ} (has (actors_of l.yielded) place) (slice_index l.holds place) 0;
  turns : l.yielded ++ rest_of l.place-iterator ≡ members l.fn.places.0;
}
