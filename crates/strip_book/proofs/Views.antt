-- Lists of views, and what a number of each view adds up to.
use Rattle.std.proofs.Common.{◌≡◌, ◌≢◌, ℕ, zero, suc, ◌+◌, ◌-◌, ◌<◌, ◌≤◌, true, false, ◌||◌, cond, List, [], ◌∷◌, ◌++◌, set, inl, inr, refl, sym, ap, ◌∙◌, subst, arith}
use Rattle.std.proofs.lemmas.Bool.{cases_eq, cond-false}
use mathlib.Core.Option.{some, some-ne-none, some-injective}
use lib.ListN.{get_elem?}
use Rattle.atomic_table.proofs.Lists.{at_longer, at_set, at_snoc, set_else}
use Rattle.strip_book.specs.View.{ViewData}
use Rattle.strip_book.specs.Rule.{IsWritten, spent_weight, total, weight_of}
use Rattle.strip_book.specs.Steps.{joined, lightened, split_off}

-- ---- one view in the place of another, and a view more

module _ {A : Type 0} where
  pub put_here : (xs : List A) (id : ℕ) (x other : A) → get_elem? xs id ≡ some x → get_elem? (set xs id other) id ≡ some other
  put_here [] id x other at = absurd (some-ne-none x (sym at))
  put_here (y ∷ ys) zero x other at = refl
  put_here (y ∷ ys) (suc id) x other at = put_here ys id x other at

  -- what holds of each, and of the one that is put there, holds of each
  pub each_put : (P : A → Type 0) (xs : List A) (id : ℕ) (other : A) → ((j : ℕ) (y : A) → get_elem? xs j ≡ some y → P y) → P other
      → (j : ℕ) (y : A) → get_elem? (set xs id other) j ≡ some y → P y
  each_put P xs id other each one j y at = elim (at_set xs id j other y at) [
    | inl here ↦ subst P here.1 one
    | inr there ↦ each j y there.1
  ]

  pub each_pushed : (P : A → Type 0) (xs : List A) (other : A) → ((j : ℕ) (y : A) → get_elem? xs j ≡ some y → P y) → P other
      → (j : ℕ) (y : A) → get_elem? (xs ++ other ∷ []) j ≡ some y → P y
  each_pushed P xs other each one j y at = elim (at_snoc xs other y j at) [
    | inl before ↦ each j y before
    | inr last ↦ subst P last one
  ]

  -- ---- totals

  pub total-put : (f : A → ℕ) (xs : List A) (id : ℕ) (x other : A) → get_elem? xs id ≡ some x → total f (set xs id other) + f x ≡ total f xs + f other
  total-put f [] id x other at = absurd (some-ne-none x (sym at))
  total-put f (y ∷ ys) zero x other at = (let same : f y ≡ f x = ap f (some-injective y x at) in omega (arith, same))
  total-put f (y ∷ ys) (suc id) x other at = (let rest = total-put f ys id x other at in omega (arith, rest))

  pub total-append : (f : A → ℕ) (xs ys : List A) → total f (xs ++ ys) ≡ total f xs + total f ys
  total-append f [] ys = omega arith
  total-append f (x ∷ xs) ys = (let rest = total-append f xs ys in omega (arith, rest))

  pub total-push : (f : A → ℕ) (xs : List A) (x : A) → total f (xs ++ x ∷ []) ≡ total f xs + f x
  total-push f xs x = (let both = total-append f xs (x ∷ []) in omega (arith, both))

  total-one : (f : A → ℕ) (xs : List A) (id : ℕ) (x : A) → get_elem? xs id ≡ some x → f x ≤ total f xs
  total-one f [] id x at = absurd (some-ne-none x (sym at))
  total-one f (y ∷ ys) zero x at = (let same : f y ≡ f x = ap f (some-injective y x at) in omega (arith, same))
  total-one f (y ∷ ys) (suc id) x at = (let rest = total-one f ys id x at in omega (arith, rest))

  total-two : (f : A → ℕ) (xs : List A) (i j : ℕ) (x y : A) → i ≢ j → get_elem? xs i ≡ some x → get_elem? xs j ≡ some y → f x + f y ≤ total f xs
  total-two f [] i j x y apart at there = absurd (some-ne-none x (sym at))
  total-two f (z ∷ zs) zero zero x y apart at there = absurd (apart refl)
  total-two f (z ∷ zs) zero (suc j) x y apart at there = (let same : f z ≡ f x = ap f (some-injective z x at) in let rest = total-one f zs j y there in omega (arith, same, rest))
  total-two f (z ∷ zs) (suc i) zero x y apart at there = (let same : f z ≡ f y = ap f (some-injective z y there) in let rest = total-one f zs i x at in omega (arith, same, rest))
  total-two f (z ∷ zs) (suc i) (suc j) x y apart at there = (let rest = total-two f zs i j x y (λ same. apart (ap suc same)) at there in omega (arith, rest))

-- ---- the weight of those who found no line left

-- it is part of the weight
pub spent_weight-most : (views : List ViewData) → total spent_weight views ≤ total weight_of views
spent_weight-most [] = omega arith
spent_weight-most (view ∷ views) = (let rest = spent_weight-most views in
    let one : spent_weight view ≤ view.weight = elim view.spent as (λ b. cond {A = ℕ} b view.weight 0 ≤ view.weight) [
      | true ↦ omega arith
      | false ↦ omega arith
    ] in omega (arith, rest, one))

pub spent_weight-none : (view : ViewData) → view.spent ≡ false → spent_weight view ≡ 0
spent_weight-none view open_ = cond-false view.spent view.weight 0 open_

pub spent_weight-light : (view : ViewData) → view.weight ≡ 0 → spent_weight view ≡ 0
spent_weight-light view light = elim view.spent as (λ b. cond {A = ℕ} b view.weight 0 ≡ 0) [ true ↦ light | false ↦ refl ]

pub spent_weight-parted : (view : ViewData) → 0 < view.weight → spent_weight (lightened view) + spent_weight (split_off view) ≡ spent_weight view
spent_weight-parted view heavy =
    elim view.spent as (λ b. cond {A = ℕ} b (view.weight - 1) 0 + cond {A = ℕ} b 1 0 ≡ cond {A = ℕ} b view.weight 0) [
      | true ↦ omega (arith, heavy)
      | false ↦ omega arith
    ]

pub spent_weight-joined : (view other : ViewData) → spent_weight view + spent_weight other ≤ spent_weight (joined view other)
spent_weight-joined view other =
    elim view.spent as (λ a. cond {A = ℕ} a view.weight 0 + cond {A = ℕ} other.spent other.weight 0 ≤ cond {A = ℕ} (a || other.spent) (view.weight + other.weight) 0) [
      | true ↦ elim other.spent as (λ b. view.weight + cond {A = ℕ} b other.weight 0 ≤ view.weight + other.weight) [
        | true ↦ omega arith
        | false ↦ omega arith
      ]
      | false ↦ elim other.spent as (λ b. 0 + cond {A = ℕ} b other.weight 0 ≤ cond {A = ℕ} b (view.weight + other.weight) 0) [
        | true ↦ omega arith
        | false ↦ omega arith
      ]
    ]

-- ---- a view with all the weight

total-none : (f : ViewData → ℕ) (views : List ViewData) → total weight_of views ≡ 0 → ((j : ℕ) (u : ViewData) → get_elem? views j ≡ some u → u.weight ≡ 0 → f u ≡ 0)
    → total f views ≡ 0
total-none f [] whole none = refl
total-none f (x ∷ xs) whole none =
    omega (arith, none 0 x refl (omega (arith, whole)), total-none f xs (omega (arith, whole)) (λ j u at. none (suc j) u at))

-- the others have nothing where a view without weight has nothing
pub total-alone : (f : ViewData → ℕ) (views : List ViewData) (id : ℕ) (view : ViewData) → get_elem? views id ≡ some view → total weight_of views ≡ view.weight
    → ((j : ℕ) (u : ViewData) → get_elem? views j ≡ some u → u.weight ≡ 0 → f u ≡ 0) → total f views ≡ f view
total-alone f [] id view at whole none = absurd (some-ne-none view (sym at))
total-alone f (x ∷ xs) zero view at whole none =
    let same : x ≡ view = some-injective x view at in
    omega (arith, ap f same, total-none f xs (omega (arith, whole, ap weight_of same)) (λ j u there. none (suc j) u there))
total-alone f (x ∷ xs) (suc id) view at whole none =
    let one = total-one weight_of xs id view at in
    let first : f x ≡ 0 = none 0 x refl (omega (arith, whole, one)) in
    omega (arith, first, total-alone f xs id view at (omega (arith, whole, one)) (λ j u there. none (suc j) u there))

-- no other view has weight
pub alone : (views : List ViewData) (id other : ℕ) (view u : ViewData) → get_elem? views id ≡ some view → total weight_of views ≡ view.weight
    → get_elem? views other ≡ some u → 0 < u.weight → u ≡ view
alone views id other view u at whole there heavy = elim (cases_eq other id) [
  | inl same ↦ some-injective u view (sym there ∙ (ap (get_elem? views) same ∙ at))
  | inr apart ↦ absurd (let both = total-two weight_of views id other view u (λ same. apart (sym same)) at there in omega (arith, both, whole, heavy))
]

-- ---- lines that some view writes

-- a line that another view writes is written still
pub written-put : (views : List ViewData) (id : ℕ) (me w : ViewData) (number : ℕ) → get_elem? views id ≡ some me → (me.writing ≡ true → me.at ≢ number)
    → IsWritten views number → IsWritten (set views id w) number
written-put views id me w number at apart by = elim (cases_eq by.0 id) [
  | inl same ↦ absurd (
      let view : me ≡ by.1 = some-injective me by.1 (sym at ∙ (ap (get_elem? views) (sym same) ∙ by.2)) in
      apart (ap (λ (u : ViewData). u.writing) view ∙ by.3) (ap (λ (u : ViewData). u.at) view ∙ by.4))
  | inr far ↦ (by.0, by.1, set_else views id by.0 w far ∙ by.2, by.3, by.4)
]

pub written-pushed : (views : List ViewData) (w : ViewData) (number : ℕ) → IsWritten views number → IsWritten (views ++ w ∷ []) number
written-pushed views w number by = (by.0, by.1, at_longer views (w ∷ []) by.0 by.1 by.2, by.3, by.4)
