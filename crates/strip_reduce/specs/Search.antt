-- What a search for a step goes by.
use Rattle.std.specs.Prelude.{◌≡◌, ℕ, ◌<◌, ◌==◌, Bool, false, not, ◌&&◌, List, slice_index, slice_index_or}

-- the scenes have equal casts, and neither is marked
abbrev pub can_join_marked : List ℕ → List Bool → ℕ → ℕ → Bool
can_join_marked casts marks a b =
    (slice_index casts a == slice_index casts b) && (not (slice_index_or marks a false)
    && not (slice_index_or marks b false))

-- no two numbers below n pass of which the first is below the limit
pub record NoTwoBelow (limit n : ℕ) (test : ℕ → ℕ → Bool) : Type 0 where
  pub each : (a b : ℕ) → a < limit → a < b → b < n → test a b ≡ false
