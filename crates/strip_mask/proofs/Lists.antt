-- Lists: what stands in one, how often a number does, and lists that are filled from the front.
use Rattle.std.proofs.Common.{◌≡◌, ◌≢◌, ℕ, zero, suc, ◌+◌, ◌<◌, ◌⊎◌, cond, eqb, List, [], ◌∷◌, ◌++◌, All, Contains, count_by, length, replicate, set, slice_index, get_or-set_same, get_or-set_other, refl, sym, subst, ◌∙◌, inl, inr, arith}
use Rattle.std.proofs.lemmas.Bool.Decides.{eqb_tells}
use Rattle.std.proofs.lemmas.List.Elements.{All-head, All-tail, All-cons, All-nil}
use Rattle.std.proofs.lemmas.List.Sums.{sum_by-cons, sum_by-append}

-- ---- what stands in a list

pub contains_here : {X : Type 0} (x : X) (xs : List X) → Contains (x ∷ xs) x
contains_here x xs = (0, omega arith, refl)

pub contains_later : {X : Type 0} (y : X) (xs : List X) (x : X) → Contains xs x → Contains (y ∷ xs) x
contains_later y xs x (k, within, at) = (suc k, omega (arith, within), at)

pub contains_cases : {X : Type 0} (y : X) (xs : List X) (x : X) → Contains (y ∷ xs) x → (y ≡ x) ⊎ Contains xs x
contains_cases y xs x (zero, within, at) = inl at
contains_cases y xs x (suc k, within, at) = inr (k, omega (arith, within), at)

pub contains_none : {X : Type 0} (x : X) → Contains [] x → ⊥
contains_none x (k, within, at) = omega (arith, within)

-- ---- how often a number stands in a list

abbrev pub count : ℕ → List ℕ → ℕ
count x xs = count_by (λ y. eqb y x) xs

pub count-cons : (x y : ℕ) (ys : List ℕ) → count x (y ∷ ys) ≡ cond {A = ℕ} (eqb y x) 1 0 + count x ys
count-cons x y ys = sum_by-cons (λ z. cond {A = ℕ} (eqb z x) 1 0) y ys

pub count-append : (x : ℕ) (xs ys : List ℕ) → count x (xs ++ ys) ≡ count x xs + count x ys
count-append x xs ys = sum_by-append (λ z. cond {A = ℕ} (eqb z x) 1 0) xs ys

-- the head once more, and another number as often as before
pub count_here : (x : ℕ) (ys : List ℕ) → count x (x ∷ ys) ≡ 1 + count x ys
count_here x ys = count-cons x x ys ∙ elim (eqb_tells x x) [
  | inl is ↦ rw is.0 refl
  | inr is_not ↦ absurd (is_not.1 refl)
]

pub count_other : (x y : ℕ) (ys : List ℕ) → y ≢ x → count x (y ∷ ys) ≡ count x ys
count_other x y ys other = count-cons x y ys ∙ elim (eqb_tells y x) [
  | inl is ↦ absurd (other is.1)
  | inr is_not ↦ rw is_not.0 (omega arith)
]

-- a number that each element differs from stands in the list nowhere
pub count_none : (x : ℕ) (xs : List ℕ) → All (λ y. y ≢ x) xs → count x xs ≡ 0
count_none x [] all = refl
count_none x (y ∷ ys) all = count_other x y ys (All-head (λ y. y ≢ x) y ys all) ∙ count_none x ys (All-tail (λ y. y ≢ x) y ys all)

-- and the other way
pub none_counted : (x : ℕ) (xs : List ℕ) → count x xs ≡ 0 → All (λ y. y ≢ x) xs
none_counted x [] none = All-nil (λ y. y ≢ x)
none_counted x (y ∷ ys) none =
    let more : count x (y ∷ ys) ≡ cond {A = ℕ} (eqb y x) 1 0 + count x ys = count-cons x y ys in
    elim (eqb_tells y x) [
      | inl is ↦ (let one : cond {A = ℕ} (eqb y x) 1 0 ≡ 1 = rw is.0 refl in absurd (omega arith))
      | inr is_not ↦ All-cons (λ y. y ≢ x) y ys is_not.1 (none_counted x ys (omega arith))
    ]

-- ---- lists that are filled from the front

pub zeros : (n i : ℕ) → slice_index (replicate {A = ℕ} n 0) i ≡ 0
zeros zero i = refl
zeros (suc n) zero = refl
zeros (suc n) (suc i) = zeros n i

-- a list of which the places below one are what a function says, when this one is written
pub written : (xs : List ℕ) (i x : ℕ) (f : ℕ → ℕ) → i < length xs → ((k : ℕ) → k < i → slice_index xs k ≡ f k) → x ≡ f i
    → (k : ℕ) → k < i + 1 → slice_index (set xs i x) k ≡ f k
written xs i x f within before here k lt = elim (eqb_tells i k) [
  | inl same ↦ subst (λ (j : ℕ). slice_index (set xs i x) j ≡ f j) same.1 (get_or-set_same xs i x 0 within ∙ here)
  | inr other ↦ get_or-set_other xs i k x 0 (λ same. other.1 (sym same)) ∙ before k (omega (arith, lt, other.1))
]
