-- A set closed up at a number.
use Rattle.std.proofs.Common.{◌≡◌, ℕ, ◌+◌, ◌-◌, ◌/◌, ◌^◌, ◌<◌, Bool, true, false, cond, not, eqb, ◌&&◌, ◌||◌, ltb, suc, refl, sym, ap, ◌∙◌, inl, inr, arith, add-one, bit_and, bit_or, w64}
use Rattle.std.specs.Int.{bit_not}
use Rattle.std.proofs.lemmas.Bool.{cases_lt, lt-ltb}
use Rattle.std.proofs.lemmas.Bool.Decides.{nat_tests}
use Rattle.std.proofs.lemmas.Nat.{pow_below}
use Rattle.std.proofs.lemmas.Nat.Bits.{bit_at-suc, bit_at_ones, bit_at_ones_above}
use Rattle.strip_mask.specs.Set.{IsSet, has, union, meet, minus, full, closed_up, behind_gap}
use Rattle.strip_mask.proofs.Bits.{has_is, has_from_bit, has_not_from_bit}
use Rattle.strip_mask.proofs.ByMembers.{has-union, has-meet, has-minus, same_set, minus_by_not, IsSet-union, IsSet-meet, IsSet-minus}
use Rattle.strip_mask.proofs.Below.{has-full, IsSet-full}

closed_up-is : (a i : ℕ) → closed_up a i ≡ union (meet a (full i)) (minus (a / 2) (full i))
unfolding closed_up
closed_up-is a i = refl

has-half : (a j : ℕ) → has (a / 2) j ≡ has a (suc j)
has-half a j = has_is (a / 2) j ∙ ap (λ n. eqb n 1) (sym (bit_at-suc a j)) ∙ sym (has_is a (suc j))

by_place : (low here next : Bool) → ((here && low) || (next && not low)) ≡ cond low here next
by_place true true next = refl
by_place true false true = refl
by_place true false false = refl
by_place false true true = refl
by_place false true false = refl
by_place false false true = refl
by_place false false false = refl

pub has-closed_up : (a i j : ℕ) → has (closed_up a i) j ≡ has a (behind_gap i j)
has-closed_up a i j = rw (closed_up-is a i, has-union (meet a (full i)) (minus (a / 2) (full i)) j, has-meet a (full i) j, has-minus (a / 2) (full i) j, has-full i j, has-half a j)
    (by_place (ltb j i) (has a j) (has a (suc j)) ∙ at (ltb j i))
  where
    at : (low : Bool) → cond low (has a j) (has a (suc j)) ≡ has a (cond low j (j + 1))
    at true = refl
    at false = ap (has a) (sym (add-one j))

pub IsSet-closed_up : (a i : ℕ) → IsSet a → i < 64 → IsSet (closed_up a i)
IsSet-closed_up a i is small =
    let half : IsSet (a / 2) = omega (arith, is) in
    rw (closed_up-is a i) (IsSet-union (meet a (full i)) (minus (a / 2) (full i)) (IsSet-meet a (full i) is) (IsSet-minus (a / 2) (full i) half))

-- all numbers below i, as the bits below bit i
full_ones : (i : ℕ) → i < 64 → full i ≡ 2 ^ i - 1
full_ones i small =
    let ones : IsSet (2 ^ i - 1) = (let power : 2 ^ i < 2 ^ 64 = pow_below i 64 small in omega (arith, power)) in
    same_set (full i) (2 ^ i - 1) (IsSet-full i (omega (arith, small))) ones (λ j lt. has-full i j ∙ elim (cases_lt j i) [
      | inl low ↦ lt-ltb j i low ∙ sym (has_from_bit (2 ^ i - 1) j (bit_at_ones i j low))
      | inr past ↦ (let out : ltb j i ≡ false = grind (arith, nat_tests) in
          out ∙ sym (has_not_from_bit (2 ^ i - 1) j (bit_at_ones_above i j past)))
    ])

pub closed_by_ones : (a i : ℕ) → IsSet a → i < 64
    → bit_or (bit_and a (2 ^ i - 1)) (bit_and (a / 2) (bit_not w64 (2 ^ i - 1))) ≡ closed_up a i
unfolding union meet
closed_by_ones a i is small =
    let half : a / 2 < 2 ^ 64 = omega (arith, is) in
    let ones : 2 ^ i - 1 < 2 ^ 64 = (let power : 2 ^ i < 2 ^ 64 = pow_below i 64 small in omega (arith, power)) in
    ap (bit_or (bit_and a (2 ^ i - 1))) (minus_by_not (a / 2) (2 ^ i - 1) half ones)
    ∙ ap (λ (low : ℕ). bit_or (bit_and a low) (minus (a / 2) low)) (sym (full_ones i small)) ∙ sym (closed_up-is a i)
