-- Tests that agree, and several tests in another order.
use Rattle.std.proofs.Common.{◌≡◌, Bool, true, false, ◌&&◌, ◌||◌, refl, sym}

-- two tests agree where each implies the other
pub same_test : (a b : Bool) → (a ≡ true → b ≡ true) → (b ≡ true → a ≡ true) → a ≡ b
same_test true b there back = sym (there refl)
same_test false true there back = back refl
same_test false false there back = refl

-- a test, with one that it implies
pub and_implied : (a b : Bool) → (a ≡ true → b ≡ true) → a ≡ (a && b)
and_implied true b within = sym (within refl)
and_implied false b within = refl

-- the order of the first two of three
pub and_turned : (a b c : Bool) → (a && (b && c)) ≡ (b && (a && c))
and_turned true b c = refl
and_turned false true c = refl
and_turned false false c = refl

pub or_turned : (a b c : Bool) → (a || (b || c)) ≡ (b || (a || c))
or_turned true true c = refl
or_turned true false c = refl
or_turned false b c = refl
