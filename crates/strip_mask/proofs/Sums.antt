-- The laws of sums over the numbers below a limit.
use Rattle.std.proofs.Common.{◌≡◌, ◌≢◌, ℕ, zero, suc, ◌+◌, ◌*◌, ◌<◌, ◌≤◌, List, length, get_or, take, sum, slice_index, sym, ap, subst, ◌∙◌, inl, inr, arith, refl, add-one}
use Rattle.std.proofs.lemmas.Bool.{cases_lt, cases_eq}
use Rattle.std.proofs.lemmas.List.{get_or_past, take_all}
use Rattle.std.proofs.lemmas.List.Sums.{sum_by_more}
use Rattle.strip_mask.specs.Sums.{sum_below}

-- nothing below 0
pub sum_below-zero : (f : ℕ → ℕ) → sum_below 0 f ≡ 0
unfolding sum_below
sum_below-zero f = refl

-- one number more
pub sum_below-suc : (n : ℕ) (f : ℕ → ℕ) → sum_below (suc n) f ≡ sum_below n f + f n
unfolding sum_below
sum_below-suc n f = refl

-- the same at n + 1
pub sum_below-more : (n : ℕ) (f : ℕ → ℕ) → sum_below (n + 1) f ≡ sum_below n f + f n
sum_below-more n f = rw add-one (sum_below-suc n f)

-- two functions that agree below n
pub sum_below-ext : (n : ℕ) (f g : ℕ → ℕ) → ((i : ℕ) → i < n → f i ≡ g i) → sum_below n f ≡ sum_below n g
sum_below-ext zero f g same = sum_below-zero f ∙ sym (sum_below-zero g)
sum_below-ext (suc n) f g same =
    let before : sum_below n f ≡ sum_below n g = sum_below-ext n f g (λ i lt. same i (omega arith)) in
    let here : f n ≡ g n = same n (omega arith) in
    rw (sum_below-suc n f, sum_below-suc n g) (omega arith)

-- the sum of two functions
pub sum_below-add : (n : ℕ) (f g : ℕ → ℕ) → sum_below n (λ i. f i + g i) ≡ sum_below n f + sum_below n g
sum_below-add zero f g = rw (sum_below-zero (λ i. f i + g i), sum_below-zero f, sum_below-zero g)
sum_below-add (suc n) f g =
    let before : sum_below n (λ i. f i + g i) ≡ sum_below n f + sum_below n g = sum_below-add n f g in
    rw (sum_below-suc n (λ i. f i + g i), sum_below-suc n f, sum_below-suc n g, before) (omega arith)

-- a common factor
pub sum_below-scale : (n c : ℕ) (f : ℕ → ℕ) → sum_below n (λ i. c * f i) ≡ c * sum_below n f
sum_below-scale zero c f = rw (sum_below-zero (λ i. c * f i), sum_below-zero f) (omega arith)
sum_below-scale (suc n) c f =
    let before : sum_below n (λ i. c * f i) ≡ c * sum_below n f = sum_below-scale n c f in
    rw (sum_below-suc n (λ i. c * f i), sum_below-suc n f, before) (grind arith)

-- no greater at each number
pub sum_below_mono : (n : ℕ) (f g : ℕ → ℕ) → ((i : ℕ) → i < n → f i ≤ g i) → sum_below n f ≤ sum_below n g
sum_below_mono zero f g le = rw (sum_below-zero f, sum_below-zero g) (omega arith)
sum_below_mono (suc n) f g le =
    let before : sum_below n f ≤ sum_below n g = sum_below_mono n f g (λ i lt. le i (omega arith)) in
    let here : f n ≤ g n = le n (omega arith) in
    rw (sum_below-suc n f, sum_below-suc n g) (omega arith)

-- one value at each number
pub sum_below-same : (n c : ℕ) → sum_below n (λ _. c) ≡ n * c
sum_below-same zero c = rw (sum_below-zero (λ _. c)) (omega arith)
sum_below-same (suc n) c =
    let before : sum_below n (λ _. c) ≡ n * c = sum_below-same n c in
    rw (sum_below-suc n (λ _. c), before) (grind arith)

-- nothing at each number
pub sum_below-none : (n : ℕ) (f : ℕ → ℕ) → ((i : ℕ) → i < n → f i ≡ 0) → sum_below n f ≡ 0
sum_below-none n f none = sum_below-ext n f (λ _. 0) none ∙ sum_below-same n 0 ∙ omega arith

-- nothing from n on
pub sum_below-past : (n m : ℕ) (f : ℕ → ℕ) → n ≤ m → ((i : ℕ) → n ≤ i → i < m → f i ≡ 0) → sum_below m f ≡ sum_below n f
sum_below-past n zero f le none = let e : n ≡ 0 = omega arith in rw e
sum_below-past n (suc m) f le none = elim (cases_lt m n) [
  | inl lt ↦ (let e : n ≡ suc m = omega arith in rw e)
  | inr ge ↦ (
      let before : sum_below m f ≡ sum_below n f = sum_below-past n m f ge (λ i from to. none i from (omega arith)) in
      let here : f m ≡ 0 = none m ge (omega arith) in
      rw (sum_below-suc m f) (omega arith))
]

-- two functions that differ at i alone
pub sum_below-point : (n i : ℕ) (f g : ℕ → ℕ) → i < n → ((j : ℕ) → j < n → i ≢ j → f j ≡ g j) → sum_below n f + g i ≡ sum_below n g + f i
sum_below-point zero i f g lt same = absurd (omega arith)
sum_below-point (suc n) i f g lt same = elim (cases_eq i n) [
  | inl is ↦ (
      let before : sum_below n f ≡ sum_below n g = sum_below-ext n f g (λ j below. same j (omega arith) (omega arith)) in
      rw (sum_below-suc n f, sum_below-suc n g, is, before) (omega arith))
  | inr other ↦ (
      let below : i < n = omega arith in
      let before : sum_below n f + g i ≡ sum_below n g + f i = sum_below-point n i f g below (λ j small ne. same j (omega arith) ne) in
      let here : f n ≡ g n = same n (omega arith) other in
      rw (sum_below-suc n f, sum_below-suc n g) (omega arith))
]

-- a term is within the sum
pub le_sum_below : (n i : ℕ) (f : ℕ → ℕ) → i < n → f i ≤ sum_below n f
le_sum_below zero i f lt = absurd (omega arith)
le_sum_below (suc n) i f lt = elim (cases_eq i n) [
  | inl is ↦ rw (sum_below-suc n f, is) (omega arith)
  | inr other ↦ (let before : f i ≤ sum_below n f = le_sum_below n i f (omega arith) in rw (sum_below-suc n f) (omega arith))
]

-- a sum of sums, in either order
pub sum_below-swap : (n m : ℕ) (f : ℕ → ℕ → ℕ) → sum_below n (λ i. sum_below m (λ j. f i j)) ≡ sum_below m (λ j. sum_below n (λ i. f i j))
sum_below-swap zero m f = sum_below-zero (λ i. sum_below m (λ j. f i j)) ∙ sym (sum_below-none m (λ j. sum_below 0 (λ i. f i j)) (λ j _. sum_below-zero (λ i. f i j)))
sum_below-swap (suc n) m f =
    sum_below-suc n (λ i. sum_below m (λ j. f i j)) ∙ ap (λ (x : ℕ). x + sum_below m (λ j. f n j)) (sum_below-swap n m f)
    ∙ sym (sum_below-add m (λ j. sum_below n (λ i. f i j)) (λ j. f n j))
    ∙ sum_below-ext m (λ j. sum_below n (λ i. f i j) + f n j) (λ j. sum_below (suc n) (λ i. f i j)) (λ j _. sym (sum_below-suc n (λ i. f i j)))

-- the values of a list up to a place
pub sum_below-take : (v : List ℕ) (n : ℕ) → sum_below n (slice_index v) ≡ sum (take n v)
sum_below-take v zero = sum_below-zero (slice_index v)
sum_below-take v (suc n) = sum_below-suc n (slice_index v) ∙ elim (cases_lt n (length v)) [
  | inl within ↦ (let more : sum (take (n + 1) v) ≡ sum (take n v) + get_or v n 0 = sum_by_more (λ x. x) v n 0 within in
      let rest : sum_below n (slice_index v) ≡ sum (take n v) = sum_below-take v n in
      ap (λ (x : ℕ). x + slice_index v n) rest ∙ sym (subst (λ (i : ℕ). sum (take i v) ≡ sum (take n v) + get_or v n 0) (add-one n) more))
  | inr past ↦ (let none : slice_index v n ≡ 0 = get_or_past v n 0 past in
      let rest : sum_below n (slice_index v) ≡ sum (take n v) = sum_below-take v n in
      let all : take n v ≡ v = take_all n v past in
      let more : take (suc n) v ≡ v = take_all (suc n) v (omega arith) in
      let same : sum (take (suc n) v) ≡ sum (take n v) = ap sum (more ∙ sym all) in
      omega (arith, none, rest, same))
]

-- and all of them
pub sum_below-slice : (v : List ℕ) → sum_below (length v) (slice_index v) ≡ sum v
sum_below-slice v = sum_below-take v (length v) ∙ ap sum (take_all (length v) v (omega arith))
