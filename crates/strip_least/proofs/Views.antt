-- Lists of views, and what a number of each view adds up to.
use Rattle.std.proofs.Common.{◌≡◌, ◌≢◌, ℕ, zero, suc, ◌+◌, ◌-◌, ◌<◌, ◌≤◌, true, false, ◌||◌, cond, List, [], ◌∷◌, ◌++◌, set, inl, inr, refl, sym, ap, ◌∙◌, subst, arith}
use Rattle.std.proofs.lemmas.Bool.{cases_eq, cond-true, cond-false}
use mathlib.Core.Option.{some, some-ne-none, some-injective}
use lib.ListN.{get_elem?}
use Rattle.atomic_table.proofs.Lists.{at_longer, at_set, at_snoc, set_else}
use Rattle.strip_least.specs.declared.view.View.{View}
use Rattle.strip_least.specs.Rule.{HasBest, ended_weight, total, weight_of}
use Rattle.strip_least.specs.Steps.{joined, lightened, split_off}

-- ---- one view in the place of another, and a view more

pub put_here : (views : List View) (id : ℕ) (view other : View) → get_elem? views id ≡ some view → get_elem? (set views id other) id ≡ some other
put_here [] id view other at = absurd (some-ne-none view (sym at))
put_here (x ∷ xs) zero view other at = refl
put_here (x ∷ xs) (suc id) view other at = put_here xs id view other at

-- what holds of each view but one, and of the one that is put there, holds of each
pub each_put : (P : View → Type 0) (views : List View) (id : ℕ) (other : View) → ((j : ℕ) (u : View) → get_elem? views j ≡ some u → P u) → P other
    → (j : ℕ) (u : View) → get_elem? (set views id other) j ≡ some u → P u
each_put P views id other each one j u at = elim (at_set views id j other u at) [
  | inl here ↦ subst P here.1 one
  | inr there ↦ each j u there.1
]

pub each_pushed : (P : View → Type 0) (views : List View) (other : View) → ((j : ℕ) (u : View) → get_elem? views j ≡ some u → P u) → P other
    → (j : ℕ) (u : View) → get_elem? (views ++ other ∷ []) j ≡ some u → P u
each_pushed P views other each one j u at = elim (at_snoc views other u j at) [
  | inl before ↦ each j u before
  | inr last ↦ subst P last one
]

-- ---- totals

pub total-put : (f : View → ℕ) (views : List View) (id : ℕ) (view other : View) → get_elem? views id ≡ some view
    → total f (set views id other) + f view ≡ total f views + f other
total-put f [] id view other at = absurd (some-ne-none view (sym at))
total-put f (x ∷ xs) zero view other at = (let same : f x ≡ f view = ap f (some-injective x view at) in omega (arith, same))
total-put f (x ∷ xs) (suc id) view other at = (let rest = total-put f xs id view other at in omega (arith, rest))

pub total-push : (f : View → ℕ) (views : List View) (view : View) → total f (views ++ view ∷ []) ≡ total f views + f view
total-push f [] view = omega arith
total-push f (x ∷ xs) view = (let rest = total-push f xs view in omega (arith, rest))

pub total-one : (f : View → ℕ) (views : List View) (id : ℕ) (view : View) → get_elem? views id ≡ some view → f view ≤ total f views
total-one f [] id view at = absurd (some-ne-none view (sym at))
total-one f (x ∷ xs) zero view at = (let same : f x ≡ f view = ap f (some-injective x view at) in omega (arith, same))
total-one f (x ∷ xs) (suc id) view at = (let rest = total-one f xs id view at in omega (arith, rest))

total-two : (f : View → ℕ) (views : List View) (i j : ℕ) (v w : View) → i ≢ j → get_elem? views i ≡ some v → get_elem? views j ≡ some w → f v + f w ≤ total f views
total-two f [] i j v w apart at there = absurd (some-ne-none v (sym at))
total-two f (x ∷ xs) zero zero v w apart at there = absurd (apart refl)
total-two f (x ∷ xs) zero (suc j) v w apart at there = (let same : f x ≡ f v = ap f (some-injective x v at) in let rest = total-one f xs j w there in omega (arith, same, rest))
total-two f (x ∷ xs) (suc i) zero v w apart at there = (let same : f x ≡ f w = ap f (some-injective x w there) in let rest = total-one f xs i v at in omega (arith, same, rest))
total-two f (x ∷ xs) (suc i) (suc j) v w apart at there = (let rest = total-two f xs i j v w (λ same. apart (ap suc same)) at there in omega (arith, rest))

-- the weight of those who have ended is part of the weight
pub ended_weight-most : (views : List View) → total ended_weight views ≤ total weight_of views
ended_weight-most [] = omega arith
ended_weight-most (view ∷ views) = (let rest = ended_weight-most views in
    let one : ended_weight view ≤ view.weight = elim view.ended as (λ b. cond {A = ℕ} b view.weight 0 ≤ view.weight) [
      | true ↦ omega arith
      | false ↦ omega arith
    ] in omega (arith, rest, one))

-- ---- a view with all the weight

total-none : (f : View → ℕ) (views : List View) → total weight_of views ≡ 0 → ((j : ℕ) (u : View) → get_elem? views j ≡ some u → u.weight ≡ 0 → f u ≡ 0)
    → total f views ≡ 0
total-none f [] whole none = refl
total-none f (x ∷ xs) whole none =
    omega (arith, none 0 x refl (omega (arith, whole)), total-none f xs (omega (arith, whole)) (λ j u at. none (suc j) u at))

-- the others have nothing where a view without weight has nothing
pub total-alone : (f : View → ℕ) (views : List View) (id : ℕ) (view : View) → get_elem? views id ≡ some view → total weight_of views ≡ view.weight
    → ((j : ℕ) (u : View) → get_elem? views j ≡ some u → u.weight ≡ 0 → f u ≡ 0) → total f views ≡ f view
total-alone f [] id view at whole none = absurd (some-ne-none view (sym at))
total-alone f (x ∷ xs) zero view at whole none =
    let same : x ≡ view = some-injective x view at in
    omega (arith, ap f same, total-none f xs (omega (arith, whole, ap weight_of same)) (λ j u there. none (suc j) u there))
total-alone f (x ∷ xs) (suc id) view at whole none =
    let one = total-one weight_of xs id view at in
    let first : f x ≡ 0 = none 0 x refl (omega (arith, whole, one)) in
    omega (arith, first, total-alone f xs id view at (omega (arith, whole, one)) (λ j u there. none (suc j) u there))

-- no other view has weight
pub alone : (views : List View) (id other : ℕ) (view u : View) → get_elem? views id ≡ some view → total weight_of views ≡ view.weight
    → get_elem? views other ≡ some u → 0 < u.weight → u ≡ view
alone views id other view u at whole there heavy = elim (cases_eq other id) [
  | inl same ↦ some-injective u view (sym there ∙ (ap (get_elem? views) same ∙ at))
  | inr apart ↦ absurd (let both = total-two weight_of views id other view u (λ same. apart (sym same)) at there in omega (arith, both, whole, heavy))
]

-- ---- the best of all

-- a view is put in the place of one whose best was the same
pub best-put : (views : List View) (id : ℕ) (view other : View) (least : ℕ) → get_elem? views id ≡ some view → 0 < other.weight → other.best ≡ view.best
    → HasBest least views → HasBest least (set views id other)
best-put views id view other least at heavy same was = elim (cases_eq was.id id) [
  | inl one ↦ (
      let here : view ≡ was.view = some-injective view was.view (sym at ∙ (ap (get_elem? views) (sym one) ∙ was.here)) in
      record { id = id; view = other; here = put_here views id view other at; some_weight = heavy; best = same ∙ ap (λ (u : View). u.best) here ∙ was.best })
  | inr apart ↦ record {
    id = was.id;
    view = was.view;
    here = set_else views id was.id other apart ∙ was.here;
    some_weight = was.some_weight;
    best = was.best;
  }
]

pub best-pushed : (views : List View) (view : View) (least : ℕ) → HasBest least views → HasBest least (views ++ view ∷ [])
best-pushed views view least was =
    record { id = was.id; view = was.view; here = at_longer views (view ∷ []) was.id was.view was.here; some_weight = was.some_weight; best = was.best }

-- ---- the weight of those who have ended

pub ended_weight-none : (view : View) → view.ended ≡ false → ended_weight view ≡ 0
ended_weight-none view open_ = cond-false view.ended view.weight 0 open_

pub ended_weight-all : (view : View) → view.ended ≡ true → ended_weight view ≡ view.weight
ended_weight-all view ended = cond-true view.ended view.weight 0 ended

pub ended_weight-spent : (view : View) → view.weight ≡ 0 → ended_weight view ≡ 0
ended_weight-spent view spent = elim view.ended as (λ b. cond {A = ℕ} b view.weight 0 ≡ 0) [ true ↦ spent | false ↦ refl ]

pub ended_weight-parted : (view : View) → 0 < view.weight → ended_weight (lightened view) + ended_weight (split_off view) ≡ ended_weight view
ended_weight-parted view heavy =
    elim view.ended as (λ b. cond {A = ℕ} b (view.weight - 1) 0 + cond {A = ℕ} b 1 0 ≡ cond {A = ℕ} b view.weight 0) [
      | true ↦ omega (arith, heavy)
      | false ↦ omega arith
    ]

pub ended_weight-joined : (view other : View) → ended_weight view + ended_weight other ≤ ended_weight (joined view other)
ended_weight-joined view other =
    elim view.ended as (λ a. cond {A = ℕ} a view.weight 0 + cond {A = ℕ} other.ended other.weight 0 ≤ cond {A = ℕ} (a || other.ended) (view.weight + other.weight) 0) [
      | true ↦ elim other.ended as (λ b. view.weight + cond {A = ℕ} b other.weight 0 ≤ view.weight + other.weight) [
        | true ↦ omega arith
        | false ↦ omega arith
      ]
      | false ↦ elim other.ended as (λ b. 0 + cond {A = ℕ} b other.weight 0 ≤ cond {A = ℕ} b (view.weight + other.weight) 0) [
        | true ↦ omega arith
        | false ↦ omega arith
      ]
    ]
