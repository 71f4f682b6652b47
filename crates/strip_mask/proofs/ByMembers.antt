-- The laws of sets by their members: no proof above looks into a mask.
use Rattle.std.proofs.Common.{◌≡◌, ◌≢◌, ℕ, ◌+◌, ◌-◌, ◌*◌, ◌/◌, ◌%◌, ◌^◌, ◌<◌, ◌≤◌, ◌⊎◌, Bool, true, false, not, ◌&&◌, ◌||◌, eqb, sym, ap, ◌∙◌, inl, inr, arith, refl, bit_and}
use Rattle.std.specs.Int.{bit_at, bit_not, w64, trailing_zeros}
use Rattle.std.proofs.Math.Bool.{and_comm, and_self, and-true, or_comm}
use Rattle.std.proofs.Math.Nat.{mod_self}
use Rattle.std.proofs.lemmas.Nat.{or_lt, xor_lt, and_le_l, and_le_r, and_block, and_mask, mod_below, pow_below, pow_pos, shr_split}
use Rattle.std.proofs.lemmas.Nat.Bits.{bit_at_and, bit_at_or, bit_at_xor, bit_at-lt, bit_at-zero, bit_at_above, bit_at_cat_low, bit_at_cat_high, bit_at_not, bit_at-trailing_zeros, same_from_bits, same_from_bits_below}
use Rattle.std.proofs.lemmas.Bool.{and_parts, and_right, cases_lt, eq-eqb, eqb-false, false≢true, ne_eqb, not-true, or_cases}
use Rattle.std.proofs.lemmas.Bool.Decides.{eqb_tells}
use Rattle.strip_mask.specs.Set.{IsSet, has, union, meet, minus, with, without}
use Rattle.strip_mask.proofs.Agree.{and_turned}
use Rattle.strip_mask.proofs.Bits.{or_test, and_test, minus_test, not_test, same_bit, has_is, has-pow, has_from_bit, has_not_from_bit}

-- ---- what the made sets have

-- a number is in a union where either set has it
pub has-union : (a b i : ℕ) → has (union a b) i ≡ (has a i || has b i)
unfolding has union
has-union a b i = rw (bit_at_or a b i) (or_test (bit_at a i) (bit_at b i) (bit_at-lt a i) (bit_at-lt b i))

-- in a meet where both have it
pub has-meet : (a b i : ℕ) → has (meet a b) i ≡ (has a i && has b i)
unfolding has meet
has-meet a b i = rw (bit_at_and a b i) (and_test (bit_at a i) (bit_at b i) (bit_at-lt a i) (bit_at-lt b i))

-- and in a difference where the first alone has it
pub has-minus : (a b i : ℕ) → has (minus a b) i ≡ (has a i && not (has b i))
unfolding has minus
has-minus a b i = rw (bit_at_xor a (bit_and a b) i, bit_at_and a b i) (minus_test (bit_at a i) (bit_at b i) (bit_at-lt a i) (bit_at-lt b i))

-- a set with i has i, and what it had
pub has-with : (a i j : ℕ) → has (with a i) j ≡ (eqb i j || has a j)
unfolding with
has-with a i j = has-union a (2 ^ i) j ∙ rw (has-pow i j) (or_comm (has a j) (eqb i j))

-- a set without i has what it had, but for i
pub has-without : (a i j : ℕ) → has (without a i) j ≡ (not (eqb i j) && has a j)
unfolding without
has-without a i j = has-minus a (2 ^ i) j ∙ rw (has-pow i j) (and_comm (has a j) (not (eqb i j)))

-- a number that was put in is there
pub has-with_same : (a i : ℕ) → has (with a i) i ≡ true
has-with_same a i = has-with a i i ∙ rw (eq-eqb i i refl)

-- and the others are as they were
pub has-with_other : (a i j : ℕ) → i ≢ j → has (with a i) j ≡ has a j
has-with_other a i j other = has-with a i j ∙ rw (ne_eqb i j other)

-- a number that was taken out is not there
pub has-without_same : (a i : ℕ) → has (without a i) i ≡ false
has-without_same a i = has-without a i i ∙ rw (eq-eqb i i refl)

-- and the others are as they were
pub has-without_other : (a i j : ℕ) → i ≢ j → has (without a i) j ≡ has a j
has-without_other a i j other = has-without a i j ∙ rw (ne_eqb i j other)

-- a member of a set with i is i, or was there
pub has_from_with : (a i j : ℕ) → has (with a i) j ≡ true → (i ≡ j) ⊎ (has a j ≡ true)
has_from_with a i j member = elim (eqb_tells i j) [ inl is ↦ inl is.1 | inr is_not ↦ inr (sym (has-with_other a i j is_not.1) ∙ member) ]

-- a member of a set without i was there, and is not i
pub has_from_without : (a i j : ℕ) → has (without a i) j ≡ true → (i ≢ j) × (has a j ≡ true)
has_from_without a i j member = let both = and_parts (not (eqb i j)) (has a j) (sym (has-without a i j) ∙ member) in (eqb-false i j (not-true (eqb i j) both.0), both.1)

-- a member of a union is one of either
pub has_from_union : (a b i : ℕ) → has (union a b) i ≡ true → (has a i ≡ true) ⊎ (has b i ≡ true)
has_from_union a b i member = or_cases (has a i) (has b i) (sym (has-union a b i) ∙ member)

-- a member of a meet is one of both
pub has_from_meet : (a b i : ℕ) → has (meet a b) i ≡ true → (has a i ≡ true) × (has b i ≡ true)
has_from_meet a b i member = and_parts (has a i) (has b i) (sym (has-meet a b i) ∙ member)

-- a member of a difference is one of the first alone
pub has_from_minus : (a b i : ℕ) → has (minus a b) i ≡ true → (has a i ≡ true) × (has b i ≡ false)
has_from_minus a b i member = let both = and_parts (has a i) (not (has b i)) (sym (has-minus a b i) ∙ member) in (both.0, not-true (has b i) both.1)

-- the empty set has no number
pub has-empty : (i : ℕ) → has 0 i ≡ false
has-empty i = has_not_from_bit 0 i (bit_at-zero i)

pub empty_has : (i : ℕ) → has 0 i ≡ true → ⊥
empty_has i there = false≢true (sym (has-empty i) ∙ there)

-- no set has a number from 64 on
pub has-past : (a i : ℕ) → IsSet a → 64 ≤ i → has a i ≡ false
has-past a i small past = has_not_from_bit a i (bit_at_above a 64 i small past)

-- a member of a mask of n bits is below n
pub below_width : (a n i : ℕ) → a < 2 ^ n → has a i ≡ true → i < n
below_width a n i small member = elim (cases_lt i n) [
  | inl lt ↦ lt
  | inr past ↦ absurd (false≢true (sym (has_not_from_bit a i (bit_at_above a n i small past)) ∙ member))
]

-- a member is below 64
pub below_64 : (a i : ℕ) → IsSet a → has a i ≡ true → i < 64
below_64 a i small member = below_width a 64 i small member

-- ---- the made sets are sets

-- the empty set is one
pub IsSet-empty : IsSet 0
IsSet-empty = omega arith

-- a union of sets
pub IsSet-union : (a b : ℕ) → IsSet a → IsSet b → IsSet (union a b)
unfolding union
IsSet-union a b p q = or_lt 64 a b p q

-- a meet with a set, on either side
pub IsSet-meet : (a b : ℕ) → IsSet a → IsSet (meet a b)
unfolding meet
IsSet-meet a b p = omega (arith, and_le_l a b)

-- the same by the second
pub IsSet-meet_right : (a b : ℕ) → IsSet b → IsSet (meet a b)
unfolding meet
IsSet-meet_right a b p = omega (arith, and_le_r a b)

-- what a set has alone
pub IsSet-minus : (a b : ℕ) → IsSet a → IsSet (minus a b)
unfolding minus
IsSet-minus a b p = let q : bit_and a b < 2 ^ 64 = omega (arith, and_le_l a b) in xor_lt 64 a (bit_and a b) p q

-- a set with a number below 64
pub IsSet-with : (a i : ℕ) → IsSet a → i < 64 → IsSet (with a i)
unfolding with
IsSet-with a i p small = IsSet-union a (2 ^ i) p (pow_below i 64 small)

-- a set without a number
pub IsSet-without : (a i : ℕ) → IsSet a → IsSet (without a i)
unfolding without
IsSet-without a i p = IsSet-minus a (2 ^ i) p

-- ---- sets are by their members

-- masks of any width with the same members are equal
pub same_has : (a b : ℕ) → ((i : ℕ) → has a i ≡ has b i) → a ≡ b
same_has a b same = same_from_bits a b (λ i. same_bit (bit_at a i) (bit_at b i) (bit_at-lt a i) (bit_at-lt b i) (sym (has_is a i) ∙ same i ∙ has_is b i))

-- two sets with the same members are one
pub same_set : (a b : ℕ) → IsSet a → IsSet b → ((i : ℕ) → i < 64 → has a i ≡ has b i) → a ≡ b
same_set a b p q same = same_from_bits_below 64 a b p q (λ i small. same_bit (bit_at a i) (bit_at b i) (bit_at-lt a i) (bit_at-lt b i) (sym (has_is a i) ∙ same i small ∙ has_is b i))

-- a set with no member is the empty one
pub empty_from : (a : ℕ) → ((i : ℕ) → has a i ≡ false) → a ≡ 0
empty_from a none = same_has a 0 (λ i. none i ∙ sym (has-empty i))

-- to add a member changes nothing
pub with_there : (a i : ℕ) → has a i ≡ true → with a i ≡ a
with_there a i member = same_has (with a i) a (λ j. has-with a i j ∙ elim (eqb_tells i j) [
  | inl is ↦ rw (is.0, ← is.1) (sym member)
  | inr is_not ↦ rw is_not.0
])

-- nor does it to take away what is not there
pub without_absent : (a i : ℕ) → has a i ≡ false → without a i ≡ a
without_absent a i absent = same_has (without a i) a (λ j. has-without a i j ∙ elim (eqb_tells i j) [
  | inl is ↦ rw (is.0, ← is.1) (sym absent)
  | inr is_not ↦ rw is_not.0
])

-- to take a member away and to put it back
pub with-without : (a i : ℕ) → has a i ≡ true → with (without a i) i ≡ a
with-without a i member = same_has (with (without a i) i) a (λ j. has-with (without a i) i j ∙ rw (has-without a i j) (elim (eqb_tells i j) [
  | inl is ↦ rw (is.0, ← is.1) (sym member)
  | inr is_not ↦ rw is_not.0
]))

-- to add a number and to take it away again
pub without-with : (a i : ℕ) → has a i ≡ false → without (with a i) i ≡ a
without-with a i absent = same_has (without (with a i) i) a (λ j. has-without (with a i) i j ∙ rw (has-with a i j) (elim (eqb_tells i j) [
  | inl is ↦ rw (is.0, ← is.1) (sym absent)
  | inr is_not ↦ rw is_not.0
]))

-- what the first set has alone and what both have make up the first
pub minus_and_meet : (a b : ℕ) → union (minus a b) (meet a b) ≡ a
minus_and_meet a b = same_has (union (minus a b) (meet a b)) a (λ i. has-union (minus a b) (meet a b) i ∙ rw (has-minus a b i, has-meet a b i) (parts (has a i) (has b i)))
  where
    parts : (x y : Bool) → ((x && not y) || (x && y)) ≡ x
    parts true true = refl
    parts true false = refl
    parts false y = refl

-- the order of a union is free
pub union_swap : (a b : ℕ) → union a b ≡ union b a
union_swap a b = same_has (union a b) (union b a) (λ i. has-union a b i ∙ or_comm (has a i) (has b i) ∙ sym (has-union b a i))

-- and that of a meet
pub meet_swap : (a b : ℕ) → meet a b ≡ meet b a
meet_swap a b = same_has (meet a b) (meet b a) (λ i. has-meet a b i ∙ and_comm (has a i) (has b i) ∙ sym (has-meet b a i))

-- nothing is taken away
pub minus_none : (a : ℕ) → minus a 0 ≡ a
minus_none a = same_has (minus a 0) a (λ i. has-minus a 0 i ∙ ap (λ (b : Bool). has a i && not b) (has-empty i) ∙ and-true (has a i))

-- two numbers taken out, in either order
pub without_swap : (set i j : ℕ) → without (without set i) j ≡ without (without set j) i
without_swap set i j = same_has (without (without set i) j) (without (without set j) i) (λ k. twice i j k ∙ and_turned (not (eqb j k)) (not (eqb i k)) (has set k) ∙ sym (twice j i k))
  where
    twice : (a b k : ℕ) → has (without (without set a) b) k ≡ (not (eqb b k) && (not (eqb a k) && has set k))
    twice a b k = has-without (without set a) b k ∙ ap (λ (t : Bool). not (eqb b k) && t) (has-without set a k)

-- what the set has not, it has not without another number
pub still_out : (set x i : ℕ) → has set i ≡ false → has (without set x) i ≡ false
still_out set x i out = has-without set x i ∙ and_right (not (eqb x i)) (has set i) out

-- ---- the code's forms

-- `a & !b` has what a has and b has not
pub minus_by_not : (a b : ℕ) → a < 2 ^ 64 → b < 2 ^ 64 → bit_and a (bit_not w64 b) ≡ minus a b
minus_by_not a b p q =
    let small : bit_and a (bit_not w64 b) < 2 ^ 64 = omega (arith, and_le_l a (bit_not w64 b)) in
    same_set (bit_and a (bit_not w64 b)) (minus a b) small (IsSet-minus a b p) (λ i lt.
    has_is (bit_and a (bit_not w64 b)) i ∙ (rw (bit_at_and a (bit_not w64 b) i, bit_at_not w64 b i q lt, has-minus a b i, has_is a i, has_is b i)
    (not_test (bit_at a i) (bit_at b i) (bit_at-lt a i) (bit_at-lt b i))))

-- the place of the lowest one is the least member
pub lowest_is : (a : ℕ) → 0 < a → IsSet a → (trailing_zeros w64 a < 64) × (has a (trailing_zeros w64 a) ≡ true) × ((j : ℕ) → j < trailing_zeros w64 a → has a j ≡ false)
lowest_is a some small =
    let lowest = bit_at-trailing_zeros w64 a some small in
    (lowest.0, has_from_bit a (trailing_zeros w64 a) lowest.1, λ j below. has_not_from_bit a j (lowest.2 j below))

-- a set that is not empty has a member
pub some_member : (a : ℕ) → IsSet a → a ≢ 0 → (i : ℕ) × (i < 64) × (has a i ≡ true)
some_member a small some = let lowest = lowest_is a (omega arith) small in (trailing_zeros w64 a, lowest.0, lowest.1)

-- a mask and itself
meet_itself : (a : ℕ) → bit_and a a ≡ a
unfolding meet
meet_itself a = same_has (bit_and a a) a (λ i. has-meet a a i ∙ and_self (has a i))

-- above its least member, a set has a multiple of the next power of two
low_part : (a i : ℕ) → has a i ≡ true → ((j : ℕ) → j < i → has a j ≡ false) → a % 2 ^ (i + 1) ≡ 2 ^ i
low_part a i member before =
    let low : a % 2 ^ (i + 1) < 2 ^ (i + 1) = mod_below a (2 ^ (i + 1)) (pow_pos (i + 1)) in
    let split : a / 2 ^ (i + 1) * 2 ^ (i + 1) + a % 2 ^ (i + 1) ≡ a = shr_split a (i + 1) in
    same_has (a % 2 ^ (i + 1)) (2 ^ i) (λ j. elim (cases_lt j (i + 1)) [
      | inl lt ↦ (
          let same : has (a % 2 ^ (i + 1)) j ≡ has a j = has_is (a % 2 ^ (i + 1)) j ∙ ap (λ (x : ℕ). eqb x 1) (sym (bit_at_cat_low (a / 2 ^ (i + 1)) (i + 1) (a % 2 ^ (i + 1)) j lt) ∙ ap (λ (x : ℕ). bit_at x j) split) ∙ sym (has_is a j) in
          same ∙ elim (eqb_tells i j) [
            | inl is ↦ ap (has a) (sym is.1) ∙ member ∙ sym is.0 ∙ sym (has-pow i j)
            | inr is_not ↦ before j (omega (arith, is_not.1)) ∙ sym is_not.0 ∙ sym (has-pow i j)
          ])
      | inr past ↦ (
          let none : has (a % 2 ^ (i + 1)) j ≡ false = has_not_from_bit (a % 2 ^ (i + 1)) j (bit_at_above (a % 2 ^ (i + 1)) (i + 1) j low past) in
          let other : i ≢ j = omega arith in
          none ∙ sym (has-pow i j ∙ ne_eqb i j other))
    ])

-- `a & (a - 1)` is the set without its least member
pub without_lowest : (a i : ℕ) → has a i ≡ true → ((j : ℕ) → j < i → has a j ≡ false) → bit_and a (a - 1) ≡ without a i
without_lowest a i member before =
    let high = a / 2 ^ (i + 1) in
    let some : 0 < 2 ^ i = pow_pos i in
    let less : 2 ^ i < 2 ^ (i + 1) = pow_below i (i + 1) (omega arith) in
    let split : high * 2 ^ (i + 1) + 2 ^ i ≡ a = ap (λ (x : ℕ). high * 2 ^ (i + 1) + x) (sym (low_part a i member before)) ∙ shr_split a (i + 1) in
    let one_less : high * 2 ^ (i + 1) + (2 ^ i - 1) ≡ a - 1 = omega arith in
    let parts : bit_and (high * 2 ^ (i + 1) + 2 ^ i) (high * 2 ^ (i + 1) + (2 ^ i - 1)) ≡ bit_and high high * 2 ^ (i + 1) + bit_and (2 ^ i) (2 ^ i - 1) = and_block (i + 1) high high (2 ^ i) (2 ^ i - 1) less (omega arith) in
    let none : bit_and (2 ^ i) (2 ^ i - 1) ≡ 0 = and_mask (2 ^ i) i ∙ mod_self (2 ^ i) in
    let shape : bit_and a (a - 1) ≡ high * 2 ^ (i + 1) + 0 = ap (λ (x : ℕ). bit_and x (a - 1)) (sym split) ∙ ap (λ (x : ℕ). bit_and (high * 2 ^ (i + 1) + 2 ^ i) x) (sym one_less) ∙ parts ∙ rw (meet_itself high, none) in
    same_has (bit_and a (a - 1)) (without a i) (λ j. ap (λ (x : ℕ). has x j) shape ∙ elim (cases_lt j (i + 1)) [
      | inl lt ↦ (
          let gone : has (high * 2 ^ (i + 1) + 0) j ≡ false = has_not_from_bit (high * 2 ^ (i + 1) + 0) j (bit_at_cat_low high (i + 1) 0 j lt ∙ bit_at-zero j) in
          gone ∙ sym (has-without a i j ∙ elim (eqb_tells i j) [
            | inl is ↦ rw is.0
            | inr is_not ↦ and_right (not (eqb i j)) (has a j) (before j (omega (arith, is_not.1)))
          ]))
      | inr past ↦ (
          let kept : has (high * 2 ^ (i + 1) + 0) j ≡ has a j = has_is (high * 2 ^ (i + 1) + 0) j ∙ ap (λ (x : ℕ). eqb x 1) (bit_at_cat_high high (i + 1) 0 j (pow_pos (i + 1)) past ∙ sym (bit_at_cat_high high (i + 1) (2 ^ i) j less past) ∙ ap (λ (x : ℕ). bit_at x j) split) ∙ sym (has_is a j) in
          let other : i ≢ j = omega arith in
          kept ∙ sym (has-without a i j ∙ rw (ne_eqb i j other)))
    ])
