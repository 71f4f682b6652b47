-- The tests of an order and of a pair, and what they decide.
use Rattle.std.proofs.Common.{◌≡◌, ◌↔◌, ℕ, zero, suc, ◌<◌, ltb, eqb, Bool, true, ◌&&◌, List, [], ◌∷◌, Contains, inl, inr, refl, sym, ◌∙◌, subst, arith}
use Rattle.std.specs.List.{list_all, list_any}
use Rattle.std.specs.Prelude.{count_by}
use Rattle.std.proofs.lemmas.Bool.{and_parts, cases_lt, eq-eqb, eqb-true, lt-ltb, ltb-true, or_cases, or_left}
use Rattle.std.proofs.lemmas.List.Folds.{list_all-append}
use Rattle.std.proofs.lemmas.List.Elements.{All-cons, All-nil}
use Rattle.std.proofs.lemmas.List.Sums.{AllPass-from_list_all, list_all-from_AllPass}
use Rattle.strip_mask.specs.Set.{numbers_below}
use Rattle.strip_mask.proofs.Below.{and_true}
use Rattle.strip_model.specs.declared.pair.Pair.{Pair}
use Rattle.strip_model.specs.Order.{IsOrder, Keeps, KeepsPair, StandsBefore}
use Rattle.strip_model.proofs.Lists.{any_from, any_is, or_true, same_test}
use Rattle.strip_check.specs.Reasons.{is_order, stands_before}

-- ---- each number once

below_passes : (p : ℕ → Bool) (n : ℕ) → list_all p (numbers_below n) ≡ true → (i : ℕ) → i < n → p i ≡ true
unfolding numbers_below
below_passes p zero all i within = absurd (omega (arith, within))
below_passes p (suc n) all i within =
    let parts = and_parts (list_all p (numbers_below n)) (list_all p (n ∷ [])) (sym (list_all-append p (numbers_below n) (n ∷ [])) ∙ all) in
    elim (cases_lt i n) [
      | inl less ↦ below_passes p n parts.0 i less
      | inr last ↦ (let same : n ≡ i = omega (arith, within, last) in
          let here = and_parts (p n) true parts.1 in
          subst (λ (k : ℕ). p k ≡ true) same here.0)
    ]

passes_below : (p : ℕ → Bool) (n : ℕ) → ((i : ℕ) → i < n → p i ≡ true) → list_all p (numbers_below n) ≡ true
unfolding numbers_below
passes_below p zero each = refl
passes_below p (suc n) each =
    list_all-append p (numbers_below n) (n ∷ [])
    ∙ and_true (list_all p (numbers_below n)) (list_all p (n ∷ [])) (passes_below p n (λ i within. each i (omega (arith, within))))
    (and_true (p n) true (each n (omega arith)) refl)

pub order_decides : (n : ℕ) (order : List ℕ) → (is_order n order ≡ true) ↔ IsOrder n order
order_decides n order = (
  λ test. (let parts = and_parts (list_all (λ scene. ltb scene n) order) (list_all (λ scene. eqb (count_by (λ x. eqb x scene) order) 1) (numbers_below n)) test in
      record {
        known = λ place default within. ltb-true _ n (AllPass-from_list_all (λ scene. ltb scene n) order parts.0 place default within);
        once = λ scene within. eqb-true _ 1 (below_passes (λ i. eqb (count_by (λ x. eqb x i) order) 1) n parts.1 scene within);
      }),
  λ is. and_true (list_all (λ scene. ltb scene n) order) (list_all (λ scene. eqb (count_by (λ x. eqb x scene) order) 1) (numbers_below n))
      (list_all-from_AllPass (λ scene. ltb scene n) order (λ place default within. lt-ltb _ n (is.known place default within)))
      (passes_below (λ i. eqb (count_by (λ x. eqb x i) order) 1) n (λ i within. eq-eqb _ 1 (is.once i within))),
)

-- a test that decides the same is the same
pub same_order : (n : ℕ) (order : List ℕ) (test : Bool) → (test ≡ true) ↔ IsOrder n order → test ≡ is_order n order
same_order n order test decides = same_test test (is_order n order) (λ yes. (order_decides n order).1 (decides.0 yes)) (λ yes. decides.1 ((order_decides n order).0 yes))

-- ---- one before the other

pub before_decides : (first second : ℕ) (order : List ℕ) → (stands_before first second order ≡ true) ↔ StandsBefore first second order
before_decides first second [] = (λ test. (cc), λ stands. absurd stands)
before_decides first second (x ∷ xs) = (
  λ test. elim (or_cases (eqb x first && list_any (λ y. eqb y second) xs) (stands_before first second xs) test) [
    | inl here ↦ (let parts = and_parts (eqb x first) (list_any (λ y. eqb y second) xs) here in
        let found = any_is (λ y. eqb y second) xs parts.1 in
        inl (eqb-true x first parts.0, subst (Contains xs) (eqb-true found.0 second found.2) found.1))
    | inr later ↦ inr ((before_decides first second xs).0 later)
  ],
  λ stands. elim stands [
    | inl here ↦ or_left (eqb x first && list_any (λ y. eqb y second) xs) (stands_before first second xs)
        (and_true (eqb x first) (list_any (λ y. eqb y second) xs) (eq-eqb x first here.0)
        (any_from (λ y. eqb y second) xs second here.1 (eq-eqb second second refl)))
    | inr later ↦ (let e : stands_before first second xs ≡ true = (before_decides first second xs).1 later in
        rw e (or_true (eqb x first && list_any (λ y. eqb y second) xs)))
  ],
)

pub same_before : (pair : Pair) (order : List ℕ) (test : Bool) → (test ≡ true) ↔ Keeps (pair ∷ []) order → test ≡ stands_before pair.first pair.then order
same_before pair order test decides =
    same_test test (stands_before pair.first pair.then order)
    (λ yes. (before_decides pair.first pair.then order).1 (decides.0 yes 0 pair (omega arith)))
    (λ yes. decides.1 (All-one ((before_decides pair.first pair.then order).0 yes)))
  where
    All-one : KeepsPair order pair → Keeps (pair ∷ []) order
    All-one keeps = All-cons (KeepsPair order) pair [] keeps (All-nil (KeepsPair order))
