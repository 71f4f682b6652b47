-- Tables in blocks: which sets of places a table of a length has.
use Rattle.std.proofs.Common.{◌≡◌, ℕ, ◌+◌, ◌*◌, ◌^◌, ◌<◌, ap, arith}
use Rattle.std.proofs.lemmas.Nat.{pow-add}

-- a table of all sets has each
pub known_set : (length higher places set : ℕ) → length ≡ 2 ^ higher → set < 2 ^ (higher + places) → set < length * 2 ^ places
known_set length higher places set sized lt = omega (arith, pow-add 2 higher places, lt, ap (λ (n : ℕ). n * 2 ^ places) sized)

-- and no other
pub small_set : (length higher places set : ℕ) → length ≡ 2 ^ higher → set < length * 2 ^ places → set < 2 ^ (higher + places)
small_set length higher places set sized lt = omega (arith, pow-add 2 higher places, lt, ap (λ (n : ℕ). n * 2 ^ places) sized)
