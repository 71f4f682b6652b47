-- The laws of a set's size and of its least member.
use Rattle.std.proofs.Common.{◌≡◌, ◌≢◌, ℕ, zero, suc, ◌+◌, ◌*◌, ◌/◌, ◌%◌, ◌^◌, ◌<◌, ◌≤◌, Bool, true, false, cond, ◌||◌, eqb, [], ◌∷◌, length, filter, Some, None, sym, ap, ◌∙◌, inl, inr, arith, refl, length-append, add_comm, add-one, ◌-◌, bit_and}
use lib.Count.{ones}
use Rattle.std.specs.Int.{bit_at, trailing_zeros, w64}
use Rattle.std.proofs.lemmas.Nat.{shr_below, shr_split, ones_cat, ones_le_self, zero_from_ones, mod_below, pow_pos}
use Rattle.std.proofs.lemmas.Nat.Bits.{bit_at_cat_low}
use Rattle.std.proofs.lemmas.Bool.{and_right, false≢true, cases_lt, cases_Bool, cases_eq, eq-eqb, ne_eqb}
use Rattle.strip_mask.specs.Set.{IsSet, has, union, meet, minus, with, without, numbers_below, members, size, first}
use Rattle.strip_mask.specs.Sums.{sum_below}
use Rattle.strip_mask.proofs.Bits.{cases_bit, has_is}
use Rattle.strip_mask.proofs.ByMembers.{has-union, has-meet, has_from_minus, minus_and_meet, has-with, has-without, below_64, empty_from, lowest_is, without_lowest}
use Rattle.strip_mask.proofs.Sums.{sum_below-zero, sum_below-suc, sum_below-ext, sum_below-add, sum_below_mono, sum_below-same, sum_below-point, le_sum_below}
use Rattle.strip_mask.proofs.Members.{kept-more, members_is, members-empty, members_begin}

-- 1 for a member, else 0
abbrev pub mark : Bool → ℕ
mark b = cond b 1 0

pub mark_le : (x y : Bool) → (x ≡ true → y ≡ true) → mark x ≤ mark y
mark_le true y e = rw (e refl) (omega arith)
mark_le false y e = omega arith

-- how many numbers pass a test
length_kept : (p : ℕ → Bool) (n : ℕ) → length (filter p (numbers_below n)) ≡ sum_below n (λ i. mark (p i))
unfolding numbers_below
length_kept p zero = sym (sum_below-zero (λ i. mark (p i)))
length_kept p (suc n) =
    ap length (kept-more p n) ∙ length-append (filter p (numbers_below n)) (cond (p n) (n ∷ []) []) ∙ rw (length_kept p n, sum_below-suc n (λ i. mark (p i))) (ap (λ (x : ℕ). sum_below n (λ i. mark (p i)) + x) (one (p n)))
  where
    one : (b : Bool) → length (cond b (n ∷ []) []) ≡ mark b
    one true = refl
    one false = refl

-- the size as a sum over the numbers below 64
pub size_is : (a : ℕ) → size a ≡ sum_below 64 (λ i. mark (has a i))
unfolding size
size_is a = ap length (members_is a) ∙ length_kept (has a) 64

-- the size as the length of the list of members
pub length-members : (a : ℕ) → length (members a) ≡ size a
unfolding size
length-members a = refl

-- the empty set has no number
pub size-empty : size 0 ≡ 0
unfolding size
size-empty = ap length members-empty

-- a set without one of its members has one fewer
pub size-without : (a i : ℕ) → IsSet a → has a i ≡ true → size (without a i) + 1 ≡ size a
size-without a i small member =
    let lt : i < 64 = below_64 a i small member in
    let gone : has (without a i) i ≡ false = has-without a i i ∙ rw (eq-eqb i i refl) in
    let apart = sum_below-point 64 i (λ j. mark (has a j)) (λ j. mark (has (without a i) j)) lt (λ j _ other. ap mark (sym (has-without a i j ∙ rw (ne_eqb i j other)))) in
    let here : mark (has a i) ≡ 1 = ap mark member in
    let there : mark (has (without a i) i) ≡ 0 = ap mark gone in
    rw (size_is a, size_is (without a i)) (omega (arith, apart))

-- a set with a number more has one more
pub size-with : (a i : ℕ) → i < 64 → has a i ≡ false → size (with a i) ≡ size a + 1
size-with a i lt absent =
    let came : has (with a i) i ≡ true = has-with a i i ∙ rw (eq-eqb i i refl) in
    let apart = sum_below-point 64 i (λ j. mark (has a j)) (λ j. mark (has (with a i) j)) lt (λ j _ other. ap mark (sym (has-with a i j ∙ rw (ne_eqb i j other)))) in
    let here : mark (has a i) ≡ 0 = ap mark absent in
    let there : mark (has (with a i) i) ≡ 1 = ap mark came in
    rw (size_is a, size_is (with a i)) (omega (arith, apart))

-- no set has more than 64 numbers
pub size-le : (a : ℕ) → size a ≤ 64
size-le a =
    let each = sum_below_mono 64 (λ i. mark (has a i)) (λ _. 1) (λ i _. at_most_one (has a i)) in
    rw (size_is a) (omega (arith, each, sum_below-same 64 1))
  where
    at_most_one : (b : Bool) → mark b ≤ 1
    at_most_one true = omega arith
    at_most_one false = omega arith

-- the sizes of two sets without a common number add up over their union
pub size-union : (a b : ℕ) → ((i : ℕ) → has a i ≡ true → has b i ≡ false) → size (union a b) ≡ size a + size b
size-union a b apart =
    rw (size_is (union a b), size_is a, size_is b) (
    sum_below-ext 64 (λ i. mark (has (union a b) i)) (λ i. mark (has a i) + mark (has b i)) (λ i _. ap mark (has-union a b i) ∙ parts (has a i) (has b i) (apart i))
    ∙ sum_below-add 64 (λ i. mark (has a i)) (λ i. mark (has b i)))
  where
    parts : (x y : Bool) → (x ≡ true → y ≡ false) → mark (x || y) ≡ mark x + mark y
    parts true y apart = rw (apart refl) (omega arith)
    parts false y apart = omega arith

-- what two sets share and what the first has alone add up to the first
pub size-minus : (a b : ℕ) → size (minus a b) + size (meet a b) ≡ size a
size-minus a b = sym (size-union (minus a b) (meet a b) (λ i alone. has-meet a b i ∙ and_right (has a i) (has b i) (has_from_minus a b i alone).1)) ∙ ap size (minus_and_meet a b)

-- a set whose members are all in another is no larger
pub size_mono : (a b : ℕ) → ((i : ℕ) → has a i ≡ true → has b i ≡ true) → size a ≤ size b
size_mono a b each = rw (size_is a, size_is b) (sum_below_mono 64 (λ i. mark (has a i)) (λ i. mark (has b i)) (λ i _. mark_le (has a i) (has b i) (each i)))

-- a set of size 0 is the empty one
pub empty_from_size : (a : ℕ) → IsSet a → size a ≡ 0 → a ≡ 0
empty_from_size a small none = empty_from a (λ i. elim (cases_Bool (has a i)) [
  | inl member ↦ (
      let within = le_sum_below 64 i (λ j. mark (has a j)) (below_64 a i small member) in
      let here : mark (has a i) ≡ 1 = ap mark member in
      absurd (omega (arith, within, size_is a)))
  | inr absent ↦ absent
])

-- the ones of 0
ones_zero : ones 0 ≡ 0
ones_zero = omega (arith, ones_le_self 0)

-- and of 1
ones_one : ones 1 ≡ 1
ones_one = elim (cases_eq (ones 1) 0) [ inl none ↦ absurd (omega (arith, zero_from_ones 1 none)) | inr some ↦ omega (arith, ones_le_self 1) ]

-- the ones of a number of n bits, bit by bit
ones_are : (n a : ℕ) → a < 2 ^ n → ones a ≡ sum_below n (λ i. mark (has a i))
ones_are zero a small = (let e : a ≡ 0 = omega arith in ap ones e ∙ ones_zero ∙ sym (sum_below-zero (λ i. mark (has a i))))
ones_are (suc n) a small =
    let top : a / 2 ^ n < 2 = shr_below a 1 n (rw (add_comm 1 n, add-one) small) in
    let low : a % 2 ^ n < 2 ^ n = mod_below a (2 ^ n) (pow_pos n) in
    let split : a / 2 ^ n * 2 ^ n + a % 2 ^ n ≡ a = shr_split a n in
    let parts : ones a ≡ ones (a / 2 ^ n) + ones (a % 2 ^ n) = ap ones (sym split) ∙ ones_cat n (a / 2 ^ n) (a % 2 ^ n) low in
    let ih : ones (a % 2 ^ n) ≡ sum_below n (λ i. mark (has (a % 2 ^ n) i)) = ones_are n (a % 2 ^ n) low in
    let same : sum_below n (λ i. mark (has (a % 2 ^ n) i)) ≡ sum_below n (λ i. mark (has a i)) = sum_below-ext n (λ i. mark (has (a % 2 ^ n) i)) (λ i. mark (has a i)) (λ i lt. ap mark (
    has_is (a % 2 ^ n) i ∙ ap (λ (x : ℕ). eqb x 1) (sym (bit_at_cat_low (a / 2 ^ n) n (a % 2 ^ n) i lt) ∙ ap (λ (x : ℕ). bit_at x i) split) ∙ sym (has_is a i))) in
    let here : ones (a / 2 ^ n) ≡ mark (has a n) = rw (has_is a n) (one (a / 2 ^ n) top) in
    rw (sum_below-suc n (λ i. mark (has a i)), parts) (omega (arith, ih, same, here))
  where
    one : (x : ℕ) → x < 2 → ones x ≡ mark (eqb (x % 2) 1)
    one x lt = elim (cases_bit x lt) [ inl e ↦ rw e ones_zero | inr e ↦ rw e ones_one ]

-- the code's `count_ones` is the size
pub ones_size : (a : ℕ) → IsSet a → ones a ≡ size a
ones_size a small = ones_are 64 a small ∙ sym (size_is a)

-- ---- the least member

-- a member that no smaller one precedes is the first
pub first_from : (a i : ℕ) → i < 64 → has a i ≡ true → ((j : ℕ) → j < i → has a j ≡ false) → first a ≡ Some i
unfolding first
first_from a i lt member before = rw (members_begin a i lt member before)

-- the empty set has no first
pub first-empty : first 0 ≡ None
unfolding first
first-empty = rw members-empty

-- the first of a set that is not empty
pub first_some : (a : ℕ) → IsSet a → a ≢ 0 → first a ≡ Some (trailing_zeros w64 a)
first_some a small some =
    let lowest = lowest_is a (omega arith) small in
    first_from a (trailing_zeros w64 a) lowest.0 lowest.1 lowest.2

-- a set that is not empty has a first
pub some_first : (a : ℕ) → IsSet a → a ≢ 0 → (i : ℕ) × (first a ≡ Some i)
some_first a small some = (trailing_zeros w64 a, first_some a small some)

-- a set with no first is the empty one
pub first_none : (a : ℕ) → IsSet a → first a ≡ None → a ≡ 0
first_none a small none = elim (cases_eq a 0) [ inl is ↦ is | inr some ↦ (let there = first_some a small some in absurd (cc)) ]

-- the first is a member, and no smaller number is
pub first_is : (a i : ℕ) → IsSet a → first a ≡ Some i → (has a i ≡ true) × ((j : ℕ) → j < i → has a j ≡ false)
first_is a i small is = elim (cases_eq a 0) [
  | inl none ↦ (let no : first a ≡ None = ap first none ∙ first-empty in absurd (cc))
  | inr some ↦ (
      let lowest = lowest_is a (omega arith) small in
      let there = first_some a small some in
      let same : i ≡ trailing_zeros w64 a = cc in
      (rw same lowest.1, λ j below. lowest.2 j (rw (← same) below)))
]

-- no member is below the first
pub first_le : (a i j : ℕ) → IsSet a → first a ≡ Some i → has a j ≡ true → i ≤ j
first_le a i j small is member = elim (cases_lt j i) [
  | inl lt ↦ absurd (false≢true (sym ((first_is a i small is).1 j lt) ∙ member))
  | inr le ↦ le
]

-- the members begin with the first, and go on as those of the set without it
pub members-first : (a i : ℕ) → IsSet a → first a ≡ Some i → members a ≡ i ∷ members (without a i)
members-first a i small is =
    let least = first_is a i small is in
    members_begin a i (below_64 a i small least.0) least.0 least.1

-- one turn of the iterator: it takes the least member and leaves the others
pub members_step : (a : ℕ) → IsSet a → a ≢ 0 → members a ≡ trailing_zeros w64 a ∷ members (bit_and a (a - 1))
members_step a small some =
    let lowest = lowest_is a (omega arith) small in
    members_begin a (trailing_zeros w64 a) lowest.0 lowest.1 lowest.2 ∙ ap (λ (x : ℕ). trailing_zeros w64 a ∷ members x) (sym (without_lowest a (trailing_zeros w64 a) lowest.1 lowest.2))
