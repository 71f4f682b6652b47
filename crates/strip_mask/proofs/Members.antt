-- The list of a set's members.
use Rattle.std.proofs.Common.{◌≡◌, ℕ, zero, suc, ◌+◌, ◌<◌, Bool, true, false, cond, not, ◌&&◌, eqb, [], ◌∷◌, ◌++◌, length, filter, All, Contains, sym, ap, ◌∙◌, inl, inr, arith, refl, subst, get_or, length-append}
use Rattle.std.proofs.Math.ListN.{get_or-append}
use Rattle.std.proofs.Math.Seq.{get_or-append_seam}
use Rattle.std.specs.List.Sorted.{IsStrictlyIncreasing}
use Rattle.std.proofs.lemmas.Bool.{cases_eq, ne_eqb, and_left, and_right, not_from_true, eq-eqb}
use Rattle.std.proofs.lemmas.List.Elements.{filter-append, filter_passes, All-filter, All-push, All-nil, All-weaker, All-contains, Contains-append_left, Contains-get_or, Contains-push}
use Rattle.std.proofs.lemmas.List.Kept.{IsStrictlyIncreasing-filter}
use Rattle.strip_mask.specs.Set.{IsSet, has, without, numbers_below, members}
use Rattle.strip_mask.proofs.ByMembers.{has-without, has-empty, below_64}

-- what a test keeps of one number more
pub kept-more : (p : ℕ → Bool) (n : ℕ) → filter p (numbers_below (suc n)) ≡ filter p (numbers_below n) ++ cond (p n) (n ∷ []) []
unfolding numbers_below
kept-more p n = filter-append p (numbers_below n) (n ∷ [])

-- the members of a set, as the numbers below 64 that it has
pub members_is : (a : ℕ) → members a ≡ filter (has a) (numbers_below 64)
unfolding members
members_is a = refl

-- nothing is kept where no number passes
kept_none : (p : ℕ → Bool) (n : ℕ) → ((j : ℕ) → j < n → p j ≡ false) → filter p (numbers_below n) ≡ []
unfolding numbers_below
kept_none p zero none = refl
kept_none p (suc n) none = kept-more p n ∙ rw (kept_none p n (λ j lt. none j (omega arith)), none n (omega arith))

-- the least number that passes comes first, and then those that pass but for it
kept_first : (p q : ℕ → Bool) (i n : ℕ) → p i ≡ true → ((j : ℕ) → j < i → p j ≡ false) → ((j : ℕ) → q j ≡ (not (eqb i j) && p j)) → i < n → filter p (numbers_below n) ≡ i ∷ filter q (numbers_below n)
kept_first p q i zero here before but lt = absurd (omega arith)
kept_first p q i (suc n) here before but lt = elim (cases_eq i n) [
  | inl is ↦ (
      let none : filter p (numbers_below n) ≡ [] = kept_none p n (λ j low. before j (omega arith)) in
      let others : filter q (numbers_below (suc n)) ≡ [] = kept_none q (suc n) (λ j low. but j ∙ elim (cases_eq i j) [
        | inl same ↦ and_left (not (eqb i j)) (p j) (not_from_true (eqb i j) (eq-eqb i j same))
        | inr other ↦ and_right (not (eqb i j)) (p j) (before j (omega arith))
      ]) in
      let passes : p n ≡ true = ap p (sym is) ∙ here in
      kept-more p n ∙ rw (none, others, passes) (ap (λ (x : ℕ). x ∷ []) (sym is)))
  | inr other ↦ (
      let ih : filter p (numbers_below n) ≡ i ∷ filter q (numbers_below n) = kept_first p q i n here before but (omega arith) in
      let differs : eqb i n ≡ false = ne_eqb i n other in
      let same : q n ≡ p n = but n ∙ rw differs in
      rw (kept-more p n, kept-more q n, ih, same))
]

-- what is kept is what passes
kept_there : (p : ℕ → Bool) (i n : ℕ) → p i ≡ true → i < n → Contains (filter p (numbers_below n)) i
kept_there p i zero passes lt = absurd (omega arith)
kept_there p i (suc n) passes lt = rw (kept-more p n) (elim (cases_eq i n) [
  | inl is ↦ (
      let here : p n ≡ true = ap p (sym is) ∙ passes in
      rw (here, is) (Contains-push (filter p (numbers_below n)) n))
  | inr other ↦ Contains-append_left (filter p (numbers_below n)) (cond (p n) (n ∷ []) []) i (kept_there p i n passes (omega arith))
])

-- the numbers below n are
numbers-below : (n : ℕ) → All (λ i. i < n) (numbers_below n)
unfolding numbers_below
numbers-below zero = All-nil (λ i. i < 0)
numbers-below (suc n) = All-push (λ i. i < suc n) (numbers_below n) n (All-weaker (λ i. i < n) (λ i. i < suc n) (λ i lt. omega arith) (numbers_below n) (numbers-below n)) (omega arith)

-- there are n of them
pub length-numbers_below : (n : ℕ) → length (numbers_below n) ≡ n
unfolding numbers_below
length-numbers_below zero = refl
length-numbers_below (suc n) = length-append (numbers_below n) (n ∷ []) ∙ rw (length-numbers_below n) (omega arith)

-- k stands at k
pub number_at : (n k : ℕ) → k < n → get_or (numbers_below n) k 0 ≡ k
unfolding numbers_below
number_at zero k lt = absurd (omega arith)
number_at (suc n) k lt =
    let long : length (numbers_below n) ≡ n = length-numbers_below n in
    elim (cases_eq k n) [
      | inl is ↦ (let place : k ≡ length (numbers_below n) = omega arith in ap (λ (x : ℕ). get_or (numbers_below n ++ n ∷ []) x 0) place ∙ get_or-append_seam (numbers_below n) n [] 0 ∙ sym is)
      | inr other ↦ get_or-append (numbers_below n) (n ∷ []) 0 k (omega arith) ∙ number_at n k (omega arith)
    ]

-- so each number below n is one of them
pub contains_number : (n i : ℕ) → i < n → Contains (numbers_below n) i
contains_number n i lt =
    subst (λ k. Contains (numbers_below n) k) (number_at n i lt) (Contains-get_or (numbers_below n) i 0 (omega (arith, lt, length-numbers_below n)))

-- they rise
pub numbers_rise : (n : ℕ) → IsStrictlyIncreasing (numbers_below n)
numbers_rise n k lt =
    let long : length (numbers_below n) ≡ n = length-numbers_below n in
    rw (number_at n k (omega arith), number_at n (k + 1) (omega arith)) (omega arith)

-- ---- the laws

-- the members rise, so each stands once
pub members_rise : (a : ℕ) → IsStrictlyIncreasing (members a)
members_rise a = rw (members_is a) (IsStrictlyIncreasing-filter (has a) (numbers_below 64) (numbers_rise 64))

-- they are below 64
pub members_below : (a : ℕ) → All (λ i. i < 64) (members a)
members_below a = rw (members_is a) (All-filter (has a) (λ i. i < 64) (numbers_below 64) (numbers-below 64))

-- each is in the set
pub members_in : (a : ℕ) → All (λ i. has a i ≡ true) (members a)
members_in a = rw (members_is a) (filter_passes (has a) (numbers_below 64))

-- what holds of each number of the set holds of each of them
pub All-members : (P : ℕ → Type 0) (a : ℕ) → ((i : ℕ) → has a i ≡ true → P i) → All P (members a)
All-members P a each = All-weaker (λ i. has a i ≡ true) P each (members a) (members_in a)

-- what the set has is among them
pub Contains-members : (a i : ℕ) → IsSet a → has a i ≡ true → Contains (members a) i
Contains-members a i small member = rw (members_is a) (kept_there (has a) i 64 member (below_64 a i small member))

-- and nothing else
pub has_from_members : (a i : ℕ) → Contains (members a) i → has a i ≡ true
has_from_members a i there = All-contains (λ j. has a j ≡ true) (members a) i (members_in a) there

-- so what is among them is below 64
pub below_from_members : (a i : ℕ) → Contains (members a) i → i < 64
below_from_members a i there = All-contains (λ j. j < 64) (members a) i (members_below a) there

-- the empty set has none
pub members-empty : members 0 ≡ []
members-empty = members_is 0 ∙ kept_none (has 0) 64 (λ j _. has-empty j)

-- the least member comes first, and then those of the set without it
pub members_begin : (a i : ℕ) → i < 64 → has a i ≡ true → ((j : ℕ) → j < i → has a j ≡ false) → members a ≡ i ∷ members (without a i)
members_begin a i small member before = rw (members_is a, members_is (without a i)) (kept_first (has a) (has (without a i)) i 64 member before (has-without a i) small)
