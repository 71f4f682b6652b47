-- How often numbers stand in a list.
use Rattle.std.proofs.Common.{◌≡◌, ◌≢◌, ℕ, zero, suc, ◌+◌, ◌*◌, ◌<◌, ◌≤◌, cond, eqb, List, [], ◌∷◌, ◌++◌, length, refl, sym, ap, ◌∙◌, subst, arith, sum_by, All, Contains, inl, inr}
use Rattle.std.proofs.lemmas.List.Sums.{sum_by-cons}
use Rattle.std.proofs.lemmas.List.Elements.{All-head, All-tail}
use Rattle.std.specs.List.Sorted.{IsPermutation}
use Rattle.std.proofs.lemmas.List.Sorted.{IsPermutation-refl, IsPermutation-sym, IsPermutation-cons, IsPermutation-middle, IsPermutation-trans, All-permutation, sum_by-IsPermutation}
use Rattle.std.proofs.lemmas.Bool.Decides.{nat_tests, eqb_tells}
use Rattle.std.proofs.lemmas.Bool.{cases_lt}
use Rattle.strip_mask.specs.Sums.{sum_below}
use Rattle.strip_mask.proofs.Sums.{sum_below-zero, sum_below-suc, sum_below-ext, sum_below-add, sum_below-same, sum_below-none, sum_below-point}
use Rattle.strip_model.specs.Order.{IsOrder}
pub use Rattle.strip_mask.proofs.Lists.{count, count-append, count-cons}
use Rattle.strip_mask.proofs.Lists.{contains_here, contains_later}

-- one where the numbers are equal, and else none
abbrev pub tie : ℕ → ℕ → ℕ
tie x y = cond {A = ℕ} (eqb x y) 1 0

pub tie-same : (x : ℕ) → tie x x ≡ 1
tie-same x = grind (arith, nat_tests)

pub tie-other : (x y : ℕ) → x ≢ y → tie x y ≡ 0
tie-other x y other = grind (arith, nat_tests)

pub count-push : (x y : ℕ) (xs : List ℕ) → count x (xs ++ y ∷ []) ≡ count x xs + tie y x
count-push x y xs = count-append x xs (y ∷ []) ∙ omega (arith, count-cons x y [])

-- a number that is counted stands in the list, and the other way round
pub contains_counted : (x : ℕ) (xs : List ℕ) → 0 < count x xs → Contains xs x
contains_counted x [] some = absurd (omega (arith, some))
contains_counted x (y ∷ ys) some = elim (eqb_tells y x) [
  | inl same ↦ subst (Contains (y ∷ ys)) same.1 (contains_here y ys)
  | inr other ↦ contains_later y ys x (contains_counted x ys (omega (arith, count-cons x y ys, tie-other y x other.1)))
]

pub counted_contains : (x : ℕ) (xs : List ℕ) → Contains xs x → 0 < count x xs
counted_contains x [] (k, within, at) = absurd (omega (arith, within))
counted_contains x (y ∷ ys) (zero, within, at) =
    let one : tie y x ≡ 1 = subst (λ (i : ℕ). tie y i ≡ 1) at (tie-same y) in
    omega (arith, count-cons x y ys, one)
counted_contains x (y ∷ ys) (suc k, within, at) =
    omega (arith, count-cons x y ys, counted_contains x ys (k, omega (arith, within), at))

tie_sum : (n x : ℕ) → x < n → sum_below n (λ i. tie x i) ≡ 1
tie_sum n x lt =
    let apart = sum_below-point n x (λ i. tie x i) (λ _. 0) lt (λ j _ other. tie-other x j other) in
    omega (arith, apart, tie-same x, sum_below-same n 0)

-- the elements of a list of numbers below n are as many as their counts add up to
pub length-by_counts : (n : ℕ) (xs : List ℕ) → All (λ x. x < n) xs → length xs ≡ sum_below n (λ i. count i xs)
length-by_counts n [] known = sym (sum_below-none n (λ i. count i []) (λ i _. refl))
length-by_counts n (x ∷ xs) known =
    let head : x < n = All-head (λ y. y < n) x xs known in
    let rest : length xs ≡ sum_below n (λ i. count i xs) = length-by_counts n xs (All-tail (λ y. y < n) x xs known) in
    let split : sum_below n (λ i. count i (x ∷ xs)) ≡ sum_below n (λ i. tie x i + count i xs)
    = sum_below-ext n (λ i. count i (x ∷ xs)) (λ i. tie x i + count i xs) (λ i lt. count-cons i x xs) in
    omega (arith, split, sum_below-add n (λ i. tie x i) (λ i. count i xs), tie_sum n x head)

pub length-order : (n : ℕ) (order : List ℕ) → IsOrder n order → length order ≡ n
length-order n order is =
    let ones : sum_below n (λ i. count i order) ≡ sum_below n (λ _. 1) = sum_below-ext n (λ i. count i order) (λ _. 1) is.once in
    omega (arith, length-by_counts n order is.known, ones, sum_below-same n 1)

-- ---- more elements than numbers

-- where the values below n add up to more than n, one of them is at least 2
some_twice : (n : ℕ) (f : ℕ → ℕ) → n < sum_below n f → (i : ℕ) × (2 ≤ f i)
some_twice zero f more = absurd (omega (arith, more, sum_below-zero f))
some_twice (suc n) f more = elim (cases_lt (f n) 2) [
  | inl few ↦ some_twice n f (omega (arith, more, sum_below-suc n f))
  | inr many ↦ (n, many)
]

-- a list at the first place of a number that it has
pub record SplitsAt (x : ℕ) (xs : List ℕ) : Type 0 where
  pub before : List ℕ
  pub after : List ℕ
  pub parts : xs ≡ before ++ x ∷ after
  pub first : count x after + 1 ≡ count x xs

pub split_at : (x : ℕ) (xs : List ℕ) → 0 < count x xs → SplitsAt x xs
split_at x [] some = absurd (omega (arith, some))
split_at x (y ∷ ys) some = elim (eqb_tells y x) [
  | inl same ↦ (let one : tie y x ≡ 1 = subst (λ (i : ℕ). tie y i ≡ 1) same.1 (tie-same y) in
      record { before = []; after = ys; parts = ap (λ (z : ℕ). z ∷ ys) same.1; first = omega (arith, count-cons x y ys) })
  | inr other ↦ (let none : tie y x ≡ 0 = tie-other y x other.1 in
      let rest : SplitsAt x ys = split_at x ys (omega (arith, count-cons x y ys)) in
      record { before = y ∷ rest.before; after = rest.after; parts = ap (λ (zs : List ℕ). y ∷ zs) rest.parts; first = omega (arith, count-cons x y ys, rest.first) })
]

-- a number that stands twice in a list, with what stands between its first two places
pub record Repeats (xs : List ℕ) : Type 0 where
  pub number : ℕ
  pub before : List ℕ
  pub between : List ℕ
  pub after : List ℕ
  pub parts : xs ≡ before ++ number ∷ (between ++ number ∷ after)

joined : (x : ℕ) (xs : List ℕ) (first : SplitsAt x xs) → SplitsAt x first.after → Repeats xs
joined x xs first second = record {
  number = x;
  before = first.before;
  between = second.before;
  after = second.after;
  parts = first.parts ∙ ap (λ (zs : List ℕ). first.before ++ x ∷ zs) second.parts;
}

-- a list of numbers below n with more than n elements has one of them twice
pub repeats : (n : ℕ) (xs : List ℕ) → All (λ x. x < n) xs → n < length xs → Repeats xs
repeats n xs known more =
    let twice : (i : ℕ) × (2 ≤ count i xs) = some_twice n (λ i. count i xs) (omega (arith, length-by_counts n xs known)) in
    let first : SplitsAt twice.0 xs = split_at twice.0 xs (omega (arith, twice.1)) in
    let second : SplitsAt twice.0 first.after = split_at twice.0 first.after (omega (arith, twice.1, first.first)) in
    joined twice.0 xs first second

-- ---- fewer elements than numbers

sum_few : (n : ℕ) (f : ℕ → ℕ) → ((i : ℕ) → f i ≤ 1) → sum_below n f ≤ n
sum_few zero f few = omega (arith, sum_below-zero f)
sum_few (suc n) f few = omega (arith, sum_few n f few, few n, sum_below-suc n f)

sum_lacks : (n : ℕ) (f : ℕ → ℕ) (x : ℕ) → ((i : ℕ) → f i ≤ 1) → f x ≡ 0 → x < n → sum_below n f < n
sum_lacks zero f x few none lt = absurd (omega (arith, lt))
sum_lacks (suc n) f x few none lt = elim (cases_lt x n) [
  | inl earlier ↦ omega (arith, sum_lacks n f x few none earlier, few n, sum_below-suc n f)
  | inr here ↦ (let same : x ≡ n = omega arith in
      let last : f n ≡ 0 = subst (λ (i : ℕ). f i ≡ 0) same none in
      omega (arith, sum_few n f few, sum_below-suc n f))
]

-- a list with each number below n at most once that lacks one of them is shorter than n
pub short_without : (n : ℕ) (xs : List ℕ) (x : ℕ) → All (λ y. y < n) xs → ((i : ℕ) → count i xs ≤ 1) → x < n → count x xs ≡ 0 → length xs < n
short_without n xs x known once lt none = omega (arith, length-by_counts n xs known, sum_lacks n (λ i. count i xs) x once none lt)

-- ---- sums by counts

pub sum-counts : (n : ℕ) (f : ℕ → ℕ) (xs : List ℕ) → All (λ x. x < n) xs → sum_by f xs ≡ sum_below n (λ i. count i xs * f i)
sum-counts n f [] known = sym (sum_below-none n (λ i. count i [] * f i) (λ i _. omega arith))
sum-counts n f (x ∷ xs) known =
    let head : x < n = All-head (λ y. y < n) x xs known in
    let rest : sum_by f xs ≡ sum_below n (λ i. count i xs * f i) = sum-counts n f xs (All-tail (λ y. y < n) x xs known) in
    let split : sum_below n (λ i. count i (x ∷ xs) * f i) ≡ sum_below n (λ i. tie x i * f i + count i xs * f i)
    = sum_below-ext n (λ i. count i (x ∷ xs) * f i) (λ i. tie x i * f i + count i xs * f i) (λ i lt. rw (count-cons i x xs) (grind arith)) in
    let apart = sum_below-point n x (λ i. tie x i * f i) (λ _. 0) head (λ j _ other. rw (tie-other x j other) (omega arith)) in
    let here : tie x x * f x ≡ f x = rw (tie-same x) (omega arith) in
    omega (arith, split, sum_below-add n (λ i. tie x i * f i) (λ i. count i xs * f i), apart, here, sum_below-same n 0, sum_by-cons f x xs)

pub sum-order : (n : ℕ) (f : ℕ → ℕ) (order : List ℕ) → IsOrder n order → sum_by f order ≡ sum_below n f
sum-order n f order is = sum-counts n f order is.known ∙ sum_below-ext n (λ i. count i order * f i) f (λ i lt. rw (is.once i lt) (omega arith))

-- ---- permutations

pub count-none : (n x : ℕ) (xs : List ℕ) → All (λ y. y < n) xs → n ≤ x → count x xs ≡ 0
count-none n x [] known past = refl
count-none n x (y ∷ ys) known past =
    let head : y < n = All-head (λ z. z < n) y ys known in
    omega (arith, count-cons x y ys, tie-other y x (omega arith), count-none n x ys (All-tail (λ z. z < n) y ys known) past)

pub permuted_by_counts : (xs ys : List ℕ) → ((i : ℕ) → count i xs ≡ count i ys) → IsPermutation xs ys
permuted_by_counts [] [] same = IsPermutation-refl []
permuted_by_counts [] (y ∷ ys) same = absurd (omega (arith, same y, count-cons y y ys, tie-same y))
permuted_by_counts (x ∷ xs) ys same =
    let split : SplitsAt x ys = split_at x ys (omega (arith, same x, count-cons x x xs, tie-same x)) in
    let rest : IsPermutation xs (split.before ++ split.after) = permuted_by_counts xs (split.before ++ split.after) (λ i. same_rest i split) in
    let moved : IsPermutation (split.before ++ x ∷ split.after) (x ∷ (split.before ++ split.after)) = IsPermutation-middle split.before x split.after in
    IsPermutation-trans (x ∷ xs) (x ∷ (split.before ++ split.after)) ys (IsPermutation-cons x xs (split.before ++ split.after) rest)
    (subst (IsPermutation (x ∷ (split.before ++ split.after))) (sym split.parts)
    (IsPermutation-sym (split.before ++ x ∷ split.after) (x ∷ (split.before ++ split.after)) moved))
  where
    same_rest : (i : ℕ) (split : SplitsAt x ys) → count i xs ≡ count i (split.before ++ split.after)
    same_rest i split =
        let whole : count i ys ≡ count i (split.before ++ x ∷ split.after) = ap (count i) split.parts in
        omega (arith, same i, count-cons i x xs, whole, count-append i split.before (x ∷ split.after), count-cons i x split.after, count-append i split.before split.after)

pub orders_permuted : (n : ℕ) (a b : List ℕ) → IsOrder n a → IsOrder n b → IsPermutation a b
orders_permuted n a b is_a is_b = permuted_by_counts a b (λ i. elim (cases_lt i n) [
  | inl lt ↦ is_a.once i lt ∙ sym (is_b.once i lt)
  | inr past ↦ count-none n i a is_a.known past ∙ sym (count-none n i b is_b.known past)
])

pub order_permuted : (n : ℕ) (a b : List ℕ) → IsOrder n a → IsPermutation a b → IsOrder n b
order_permuted n a b is moved = record {
  known = All-permutation (λ x. x < n) a b moved is.known;
  once = λ scene lt. sum_by-IsPermutation (λ y. tie y scene) a b moved ∙ is.once scene lt;
}
