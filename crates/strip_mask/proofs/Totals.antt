-- The laws of the sum of a list's values at the members of a set.
use Rattle.std.proofs.Common.{◌≡◌, ℕ, zero, suc, ◌+◌, ◌*◌, ◌<◌, ◌≤◌, Bool, true, false, cond, ◌||◌, List, [], ◌∷◌, length, filter, All, get_or, sum, sum_by, slice_index, sym, ap, ◌∙◌, inl, inr, arith, refl}
use Rattle.std.proofs.lemmas.Bool.{and_right, cases_Bool, eq-eqb, ne_eqb, cases_lt, cond-true, cond-false}
use Rattle.std.proofs.lemmas.List.Sums.{sum_by-append, sum_by-cons, sum_by-le}
use Rattle.std.proofs.lemmas.List.{get_or_past}
use Rattle.strip_mask.specs.Set.{IsSet, has, union, meet, minus, with, without, numbers_below, members, size, sum_over}
use Rattle.strip_mask.specs.Sums.{sum_below}
use Rattle.strip_mask.proofs.ByMembers.{has-union, has-meet, has_from_minus, minus_and_meet, has-with, has-without, has-without_other, has-without_same, below_64}
use Rattle.strip_mask.proofs.Sums.{sum_below-zero, sum_below-suc, sum_below-ext, sum_below-add, sum_below_mono, sum_below-past, sum_below-point, sum_below-slice}
use Rattle.std.proofs.lemmas.Nat.{mul-le}
use Rattle.strip_mask.proofs.Sizes.{size-le}
use Rattle.strip_mask.proofs.Members.{kept-more, members_is, members-empty}

-- the sum of the values at the numbers that pass a test
pub sum_kept : (f : ℕ → ℕ) (p : ℕ → Bool) (n : ℕ) → sum_by f (filter p (numbers_below n)) ≡ sum_below n (λ i. cond (p i) (f i) 0)
unfolding numbers_below
sum_kept f p zero = sym (sum_below-zero (λ i. cond (p i) (f i) 0))
sum_kept f p (suc n) =
    ap (sum_by f) (kept-more p n) ∙ sum_by-append f (filter p (numbers_below n)) (cond (p n) (n ∷ []) []) ∙ rw (sum_kept f p n, sum_below-suc n (λ i. cond (p i) (f i) 0)) (ap (λ (x : ℕ). sum_below n (λ i. cond (p i) (f i) 0) + x) (one (p n)))
  where
    one : (b : Bool) → sum_by f (cond b (n ∷ []) []) ≡ cond b (f n) 0
    one true = omega arith
    one false = refl

-- the sum over those of a list that pass, as a sum over all
pub sum_filter : (f : ℕ → ℕ) (p : ℕ → Bool) (xs : List ℕ) → sum_by f (filter p xs) ≡ sum_by (λ x. cond (p x) (f x) 0) xs
sum_filter f p [] = refl
sum_filter f p (x ∷ xs) =
    by_test (p x) ∙ ap (λ (n : ℕ). cond (p x) (f x) 0 + n) (sum_filter f p xs) ∙ sym (sum_by-cons (λ x. cond (p x) (f x) 0) x xs)
  where
    by_test : (b : Bool) → sum_by f (cond b (x ∷ filter p xs) (filter p xs)) ≡ cond b (f x) 0 + sum_by f (filter p xs)
    by_test true = sum_by-cons f x (filter p xs)
    by_test false = omega arith

-- the sum over the members of a set
pub sum_members : (f : ℕ → ℕ) (a : ℕ) → sum_by f (members a) ≡ sum_below 64 (λ i. cond (has a i) (f i) 0)
sum_members f a = ap (sum_by f) (members_is a) ∙ sum_kept f (has a) 64

-- a member's value and the sum over the others
pub sum_members-without : (f : ℕ → ℕ) (a i : ℕ) → IsSet a → has a i ≡ true → sum_by f (members a) ≡ f i + sum_by f (members (without a i))
sum_members-without f a i small there =
    let all : ℕ → ℕ = λ j. cond (has a j) (f j) 0 in
    let others : ℕ → ℕ = λ j. cond (has (without a i) j) (f j) 0 in
    let apart : sum_below 64 all + others i ≡ sum_below 64 others + all i
    = sum_below-point 64 i all others (below_64 a i small there) (λ j _ other. ap (λ b. cond b (f j) 0) (sym (has-without_other a i j other))) in
    let here : all i ≡ f i = ap (λ b. cond b (f i) 0) there in
    let gone : others i ≡ 0 = ap (λ b. cond b (f i) 0) (has-without_same a i) in
    omega (arith, apart, here, gone, sum_members f a, sum_members f (without a i))

-- the sum over a list by a greater function
pub sum_by_mono : (f g : ℕ → ℕ) (xs : List ℕ) → ((x : ℕ) → f x ≤ g x) → sum_by f xs ≤ sum_by g xs
sum_by_mono f g [] le = omega arith
sum_by_mono f g (x ∷ xs) le = omega (arith, sum_by_mono f g xs le, le x, sum_by-cons f x xs, sum_by-cons g x xs)

-- a number that counts by a test
pub cond_le : (b c : Bool) (n : ℕ) → (b ≡ true → c ≡ true) → cond b n 0 ≤ cond c n 0
cond_le true c n more = rw (more refl) (omega arith)
cond_le false c n more = omega arith

pub cond_most : (b : Bool) (n : ℕ) → cond b n 0 ≤ n
cond_most true n = omega arith
cond_most false n = omega arith

-- the value at a member, else 0
abbrev pub part : List ℕ → ℕ → ℕ → ℕ
part values set i = cond (has set i) (slice_index values i) 0

-- the sum over a set as a sum over the numbers below 64
pub sum_over_is : (v : List ℕ) (a : ℕ) → sum_over v a ≡ sum_below 64 (λ i. cond (has a i) (slice_index v i) 0)
unfolding sum_over
sum_over_is v a = sum_members (slice_index v) a

-- the same, where the members are below n
pub sum_over_below : (v : List ℕ) (a n : ℕ) → n ≤ 64 → ((i : ℕ) → has a i ≡ true → i < n) → sum_over v a ≡ sum_below n (λ i. cond (has a i) (slice_index v i) 0)
sum_over_below v a n le below = sum_over_is v a ∙ sum_below-past n 64 (part v a) le (λ i from _. elim (cases_Bool (has a i)) [
  | inl member ↦ absurd (omega (arith, below i member))
  | inr absent ↦ cond-false (has a i) (slice_index v i) 0 absent
])

-- the same, where there are no more than n values
pub sum_over_within : (v : List ℕ) (a n : ℕ) → n ≤ 64 → length v ≤ n → sum_over v a ≡ sum_below n (λ i. cond (has a i) (slice_index v i) 0)
sum_over_within v a n le long = sum_over_is v a ∙ sum_below-past n 64 (part v a) le (λ i from _. elim (cases_Bool (has a i)) [
  | inl member ↦ cond-true (has a i) (slice_index v i) 0 member ∙ get_or_past v i 0 (omega arith)
  | inr absent ↦ cond-false (has a i) (slice_index v i) 0 absent
])

-- nothing over the empty set
pub sum_over-empty : (v : List ℕ) → sum_over v 0 ≡ 0
unfolding sum_over
sum_over-empty v = ap (sum_by (slice_index v)) members-empty

-- a number more adds its value
pub sum_over-with : (v : List ℕ) (a i : ℕ) → i < 64 → has a i ≡ false → sum_over v (with a i) ≡ sum_over v a + slice_index v i
sum_over-with v a i lt absent =
    let came : has (with a i) i ≡ true = has-with a i i ∙ rw (eq-eqb i i refl) in
    let apart = sum_below-point 64 i (part v a) (part v (with a i)) lt (λ j _ other. ap (λ b. cond b (slice_index v j) 0) (sym (has-with a i j ∙ rw (ne_eqb i j other)))) in
    let here : part v a i ≡ 0 = cond-false (has a i) (slice_index v i) 0 absent in
    let there : part v (with a i) i ≡ slice_index v i = cond-true (has (with a i) i) (slice_index v i) 0 came in
    rw (sum_over_is v a, sum_over_is v (with a i)) (omega (arith, apart, here, there))

-- without a member its value is gone
pub sum_over-without : (v : List ℕ) (a i : ℕ) → IsSet a → has a i ≡ true → sum_over v (without a i) + slice_index v i ≡ sum_over v a
sum_over-without v a i small member =
    let lt : i < 64 = below_64 a i small member in
    let gone : has (without a i) i ≡ false = has-without a i i ∙ rw (eq-eqb i i refl) in
    let apart = sum_below-point 64 i (part v a) (part v (without a i)) lt (λ j _ other. ap (λ b. cond b (slice_index v j) 0) (sym (has-without a i j ∙ rw (ne_eqb i j other)))) in
    let here : part v a i ≡ slice_index v i = cond-true (has a i) (slice_index v i) 0 member in
    let there : part v (without a i) i ≡ 0 = cond-false (has (without a i) i) (slice_index v i) 0 gone in
    rw (sum_over_is v a, sum_over_is v (without a i)) (omega (arith, apart, here, there))

-- the sums over two sets without a common number add up over their union
pub sum_over-union : (v : List ℕ) (a b : ℕ) → ((i : ℕ) → has a i ≡ true → has b i ≡ false) → sum_over v (union a b) ≡ sum_over v a + sum_over v b
sum_over-union v a b apart =
    rw (sum_over_is v (union a b), sum_over_is v a, sum_over_is v b) (
    sum_below-ext 64 (part v (union a b)) (λ i. part v a i + part v b i) (λ i _. ap (λ x. cond x (slice_index v i) 0) (has-union a b i) ∙ parts (has a i) (has b i) (slice_index v i) (apart i))
    ∙ sum_below-add 64 (part v a) (part v b))
  where
    parts : (x y : Bool) (n : ℕ) → (x ≡ true → y ≡ false) → cond (x || y) n 0 ≡ cond x n 0 + cond y n 0
    parts true y n apart = rw (apart refl) (omega arith)
    parts false y n apart = omega arith

-- what two sets share and what the first has alone add up to the first
pub sum_over-minus : (v : List ℕ) (a b : ℕ) → sum_over v (minus a b) + sum_over v (meet a b) ≡ sum_over v a
sum_over-minus v a b = sym (sum_over-union v (minus a b) (meet a b) (λ i alone. has-meet a b i ∙ and_right (has a i) (has b i) (has_from_minus a b i alone).1)) ∙ ap (sum_over v) (minus_and_meet a b)

-- the value of a member is within the sum
pub value_le_sum_over : (v : List ℕ) (a i : ℕ) → IsSet a → has a i ≡ true → slice_index v i ≤ sum_over v a
value_le_sum_over v a i small member = omega (arith, sum_over-without v a i small member)

-- lists with the same values at the members
pub sum_over-ext : (v w : List ℕ) (a : ℕ) → ((i : ℕ) → has a i ≡ true → slice_index v i ≡ slice_index w i) → sum_over v a ≡ sum_over w a
sum_over-ext v w a same = sum_over_is v a ∙ sum_below-ext 64 (part v a) (part w a) (λ i _. elim (cases_Bool (has a i)) [
  | inl member ↦ ap (λ (x : ℕ). cond (has a i) x 0) (same i member)
  | inr absent ↦ cond-false (has a i) (slice_index v i) 0 absent ∙ sym (cond-false (has a i) (slice_index w i) 0 absent)
]) ∙ sym (sum_over_is w a)

-- no more over a part of a set
pub sum_over_mono : (v : List ℕ) (a b : ℕ) → ((i : ℕ) → has a i ≡ true → has b i ≡ true) → sum_over v a ≤ sum_over v b
sum_over_mono v a b each = rw (sum_over_is v a, sum_over_is v b) (sum_below_mono 64 (part v a) (part v b) (λ i _. cond_le (has a i) (has b i) (slice_index v i) (each i)))

-- no more than the sum of all values
pub sum_over_le_sum : (v : List ℕ) (a : ℕ) → length v ≤ 64 → sum_over v a ≤ sum v
sum_over_le_sum v a few =
    let less : sum_below (length v) (part v a) ≤ sum_below (length v) (slice_index v)
    = sum_below_mono (length v) (part v a) (slice_index v) (λ i _. cond_most (has a i) (slice_index v i)) in
    omega (arith, sum_over_within v a (length v) few (omega arith), less, sum_below-slice v)

-- no more than the set's size times a bound on the values
pub sum_over_le : (v : List ℕ) (a m : ℕ) → All (λ x. x ≤ m) v → sum_over v a ≤ size a * m
unfolding sum_over size
sum_over_le v a m each =
    sum_by-le (slice_index v) m (members a) (λ k d _. elim (cases_lt (get_or (members a) k d) (length v)) [
      | inl lt ↦ each (get_or (members a) k d) 0 lt
      | inr past ↦ (let none : slice_index v (get_or (members a) k d) ≡ 0 = get_or_past v (get_or (members a) k d) 0 past in omega arith)
    ])

-- and so no more than 64 times that bound
pub sum_over_le_64 : (v : List ℕ) (a m : ℕ) → All (λ x. x ≤ m) v → sum_over v a ≤ 64 * m
sum_over_le_64 v a m each =
    let within : sum_over v a ≤ size a * m = sum_over_le v a m each in
    let most : size a * m ≤ 64 * m = mul-le (size a) m 64 m (size-le a) (omega arith) in
    omega arith
