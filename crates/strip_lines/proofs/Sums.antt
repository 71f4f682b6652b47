-- Counts of the elements of a list that pass tests.
use Rattle.std.proofs.Common.{◌≡◌, ℕ, zero, suc, ◌+◌, ◌*◌, ◌<◌, ◌≤◌, Bool, true, false, cond, List, [], ◌∷◌, length, map, count_by, All, inl, inr, refl, sym, ap, ◌∙◌, arith}
use Rattle.std.specs.List.{flat_map, sum_by}
use Rattle.std.proofs.lemmas.Bool.{cases_Bool}
use Rattle.std.proofs.lemmas.List.Elements.{All-head, All-tail}
use Rattle.std.proofs.lemmas.List.Sums.{sum_by-append, sum_by-cons}
use Rattle.strip_mask.specs.Sums.{sum_below}
use Rattle.strip_mask.proofs.Sizes.{mark}
use Rattle.strip_mask.proofs.Sums.{sum_below-add, sum_below-none, sum_below-suc}

pub count-cons : {X : Type 0} (p : X → Bool) (x : X) (xs : List X) → count_by p (x ∷ xs) ≡ mark (p x) + count_by p xs
count-cons p x xs = sum_by-cons (λ y. cond {A = ℕ} (p y) 1 0) x xs

pub count-map : {X Y : Type 0} (p : Y → Bool) (f : X → Y) (xs : List X) → count_by p (map f xs) ≡ count_by (λ x. p (f x)) xs
count-map p f [] = refl
count-map p f (x ∷ xs) =
    count-cons p (f x) (map f xs) ∙ ap (λ (n : ℕ). mark (p (f x)) + n) (count-map p f xs) ∙ sym (count-cons (λ y. p (f y)) x xs)

pub count-flat_map : {X Y : Type 0} (p : Y → Bool) (f : X → List Y) (xs : List X) → count_by p (flat_map f xs) ≡ sum_by (λ x. count_by p (f x)) xs
count-flat_map p f [] = refl
count-flat_map p f (x ∷ xs) =
    sum_by-append (λ y. cond {A = ℕ} (p y) 1 0) (f x) (flat_map f xs) ∙ ap (λ (n : ℕ). count_by p (f x) + n) (count-flat_map p f xs)
    ∙ sym (sum_by-cons (λ y. count_by p (f y)) x xs)

-- a sum of the same number at each element
pub sum_by-same : {X : Type 0} (f : X → ℕ) (m : ℕ) (xs : List X) → All (λ x. f x ≡ m) xs → sum_by f xs ≡ length xs * m
sum_by-same f m [] each = (let none : sum_by f [] ≡ 0 = refl in omega (arith, none))
sum_by-same f m (x ∷ xs) each =
    let here : f x ≡ m = All-head (λ y. f y ≡ m) x xs each in
    let rest : sum_by f xs ≡ length xs * m = sum_by-same f m xs (All-tail (λ y. f y ≡ m) x xs each) in
    omega (arith, sum_by-cons f x xs, here, rest)

-- two tests that no element passes both, and none without a third
pub count_two : {X : Type 0} (p q r : X → Bool) (xs : List X) → All (λ x. mark (p x) + mark (q x) ≤ mark (r x)) xs → count_by p xs + count_by q xs ≤ count_by r xs
count_two p q r [] each = omega arith
count_two p q r (x ∷ xs) each =
    let here : mark (p x) + mark (q x) ≤ mark (r x) = All-head (λ y. mark (p y) + mark (q y) ≤ mark (r y)) x xs each in
    let rest : count_by p xs + count_by q xs ≤ count_by r xs = count_two p q r xs (All-tail (λ y. mark (p y) + mark (q y) ≤ mark (r y)) x xs each) in
    omega (arith, here, rest, count-cons p x xs, count-cons q x xs, count-cons r x xs)

pub count_none : {X : Type 0} (p : X → Bool) (xs : List X) → All (λ x. p x ≡ false) xs → count_by p xs ≡ 0
count_none p [] each = refl
count_none p (x ∷ xs) each =
    let here : mark (p x) ≡ 0 = ap mark (All-head (λ y. p y ≡ false) x xs each) in
    let rest : count_by p xs ≡ 0 = count_none p xs (All-tail (λ y. p y ≡ false) x xs each) in
    omega (arith, here, rest, count-cons p x xs)

-- so many tests and one more, where they add up to at most another at each element
pub count_parts : {X : Type 0} (n : ℕ) (f : ℕ → X → Bool) (q g : X → Bool) (xs : List X)
    → All (λ x. sum_below n (λ i. mark (f i x)) + mark (q x) ≤ mark (g x)) xs → sum_below n (λ i. count_by (f i) xs) + count_by q xs ≤ count_by g xs
count_parts n f q g [] each =
    let none : sum_below n (λ i. 0) ≡ 0 = sum_below-none n (λ i. 0) (λ i lt. refl) in omega (arith, none)
count_parts n f q g (x ∷ xs) each =
    let here : sum_below n (λ i. mark (f i x)) + mark (q x) ≤ mark (g x) = All-head (λ y. sum_below n (λ i. mark (f i y)) + mark (q y) ≤ mark (g y)) x xs each in
    let rest : sum_below n (λ i. count_by (f i) xs) + count_by q xs ≤ count_by g xs
    = count_parts n f q g xs (All-tail (λ y. sum_below n (λ i. mark (f i y)) + mark (q y) ≤ mark (g y)) x xs each) in
    let split : sum_below n (λ i. count_by (f i) (x ∷ xs)) ≡ sum_below n (λ i. mark (f i x)) + sum_below n (λ i. count_by (f i) xs)
    = (λ k. sum_below n (λ i. count-cons (f i) x xs k)) ∙ sum_below-add n (λ i. mark (f i x)) (λ i. count_by (f i) xs) in
    omega (arith, here, rest, split, count-cons q x xs, count-cons g x xs)

-- of some tests at most one is passed, and only where another is
pub one_of : (n : ℕ) (b : ℕ → Bool) (g : Bool) → ((i : ℕ) → i < n → b i ≡ true → g ≡ true) → ((i j : ℕ) → i < n → j < n → b i ≡ true → b j ≡ true → i ≡ j)
    → sum_below n (λ i. mark (b i)) ≤ mark g
one_of zero b g some alone = (let none : sum_below 0 (λ i. mark (b i)) ≡ 0 = sum_below-none 0 (λ i. mark (b i)) (λ i lt. absurd (omega (arith, lt))) in omega (arith, none))
one_of (suc n) b g some alone = elim (cases_Bool (b n)) [
  | inl last ↦ (let none : sum_below n (λ i. mark (b i)) ≡ 0 = sum_below-none n (λ i. mark (b i)) (λ i lt. elim (cases_Bool (b i)) [
    | inl too ↦ absurd (let same : i ≡ n = alone i n (omega (arith, lt)) (omega arith) too last in omega (arith, lt, same))
    | inr passed_not ↦ ap mark passed_not
  ]) in
      let whole : mark g ≡ 1 = ap mark (some n (omega arith) last) in
      omega (arith, sum_below-suc n (λ i. mark (b i)), none, ap mark last, whole))
  | inr failed ↦ (let rest : sum_below n (λ i. mark (b i)) ≤ mark g
      = one_of n b g (λ i lt. some i (omega (arith, lt))) (λ i j lt less. alone i j (omega (arith, lt)) (omega (arith, less))) in
      omega (arith, sum_below-suc n (λ i. mark (b i)), rest, ap mark failed))
]
