-- The order of lists is total.
use Rattle.std.proofs.Common.{◌≡◌, ◌↔◌, ℕ, ◌<◌, Bool, true, IsTrue, Some, Ordering, Less, Equal, Greater, List, [], ◌∷◌, ◌⊎◌, inl, inr, refl, sym, ap, ◌∙◌, subst, arith}
use Rattle.std.proofs.lemmas.Bool.{cases_lt}
use Rattle.std.specs.Cmp.{nat_cmp_is}
use Rattle.std.specs.Ordering.{MatchOrdering, is_lt, is_some_and, ordering_then, nat_cmp}
use Rattle.std.specs.Cmp.Lexicographic.{slice_cmp, slice_partial_cmp, lists_agrees}
use Rattle.strip_model.specs.Order.{IsBefore}

pub before-itself : (xs : List ℕ) → IsBefore xs xs → ⊥
before-itself [] before = before
before-itself (x ∷ xs) before = elim before [ inl less ↦ omega arith | inr (same, rest) ↦ before-itself xs rest ]

pub before_trans : (xs ys zs : List ℕ) → IsBefore xs ys → IsBefore ys zs → IsBefore xs zs
before_trans xs ys [] first second = absurd second
before_trans xs [] (z ∷ zs) first second = absurd first
before_trans [] (y ∷ ys) (z ∷ zs) first second = tt
before_trans (x ∷ xs) (y ∷ ys) (z ∷ zs) (inl less) (inl more) = inl (omega (arith, less, more))
before_trans (x ∷ xs) (y ∷ ys) (z ∷ zs) (inl less) (inr (same, rest)) = inl (omega (arith, less, same))
before_trans (x ∷ xs) (y ∷ ys) (z ∷ zs) (inr (same, rest)) (inl more) = inl (omega (arith, more, same))
before_trans (x ∷ xs) (y ∷ ys) (z ∷ zs) (inr (same, rest)) (inr (tie, later)) = inr (same ∙ tie, before_trans xs ys zs rest later)

-- one comes before the other, or they are equal
pub before_total : (xs ys : List ℕ) → IsBefore xs ys ⊎ ((xs ≡ ys) ⊎ IsBefore ys xs)
before_total [] [] = inr (inl refl)
before_total [] (y ∷ ys) = inl tt
before_total (x ∷ xs) [] = inr (inr tt)
before_total (x ∷ xs) (y ∷ ys) = elim (cases_lt x y) [
  | inl less ↦ inl (inl less)
  | inr more ↦ elim (cases_lt y x) [
    | inl greater ↦ inr (inr (inl greater))
    | inr same ↦ (let e : x ≡ y = omega (arith, more, same) in elim (before_total xs ys) [
      | inl before ↦ inl (inr (e, before))
      | inr rest ↦ elim rest [
        | inl tie ↦ inr (inl (ap (λ (z : ℕ). z ∷ xs) e ∙ ap (λ (zs : List ℕ). y ∷ zs) tie))
        | inr after ↦ inr (inr (inr (sym e, after)))
      ]
    ])
  ]
]

-- how two numbers compare
compared : (x y : ℕ) → (o : Ordering) × MatchOrdering o (x < y) (x ≡ y) (y < x)
compared x y = elim (cases_lt x y) [
  | inl less ↦ (Less, less)
  | inr more ↦ elim (cases_lt y x) [
    | inl greater ↦ (Greater, greater)
    | inr same ↦ (Equal, omega (arith, more, same))
  ]
]

first_differs : (x y : ℕ) (o rest : Ordering) → MatchOrdering o (x < y) (x ≡ y) (y < x)
    → is_lt (ordering_then o rest) ≡ true → (x < y) ⊎ ((x ≡ y) × (is_lt rest ≡ true))
first_differs x y Less rest is before = inl is
first_differs x y Equal rest is before = inr (is, before)
first_differs x y Greater rest is before = absurd (cc)

then_less : (x y : ℕ) (o rest : Ordering) → MatchOrdering o (x < y) (x ≡ y) (y < x)
    → (x < y) ⊎ ((x ≡ y) × (is_lt rest ≡ true)) → is_lt (ordering_then o rest) ≡ true
then_less x y Less rest is before = refl
then_less x y Equal rest is (inl less) = absurd (omega (arith, is, less))
then_less x y Equal rest is (inr tie) = tie.1
then_less x y Greater rest is (inl less) = absurd (omega (arith, is, less))
then_less x y Greater rest is (inr tie) = absurd (let same : x ≡ y = tie.0 in omega (arith, is, same))

-- the comparison of two lists tells which comes before
before_from_less : (xs ys : List ℕ) → is_lt (slice_cmp nat_cmp xs ys) ≡ true → IsBefore xs ys
before_from_less [] [] less = absurd (cc)
before_from_less [] (y ∷ ys) less = tt
before_from_less (x ∷ xs) [] less = absurd (cc)
before_from_less (x ∷ xs) (y ∷ ys) less =
    let c : (o : Ordering) × MatchOrdering o (x < y) (x ≡ y) (y < x) = compared x y in
    elim (first_differs x y c.0 (slice_cmp nat_cmp xs ys) c.1 (ap (λ (o : Ordering). is_lt (ordering_then o (slice_cmp nat_cmp xs ys))) (nat_cmp_is x y c.0 c.1) ∙ less)) [
      | inl first ↦ inl first
      | inr tie ↦ inr (tie.0, before_from_less xs ys tie.1)
    ]

less_from_before : (xs ys : List ℕ) → IsBefore xs ys → is_lt (slice_cmp nat_cmp xs ys) ≡ true
less_from_before xs [] before = absurd before
less_from_before [] (y ∷ ys) before = refl
less_from_before (x ∷ xs) (y ∷ ys) before =
    let c : (o : Ordering) × MatchOrdering o (x < y) (x ≡ y) (y < x) = compared x y in
    ap (λ (o : Ordering). is_lt (ordering_then o (slice_cmp nat_cmp xs ys))) (sym (nat_cmp_is x y c.0 c.1))
    ∙ then_less x y c.0 (slice_cmp nat_cmp xs ys) c.1 (elim before [
      | inl first ↦ inl first
      | inr tie ↦ inr (tie.0, less_from_before xs ys tie.1)
    ])

pub before_by_comparison : (xs ys cs ds : List ℕ) (less : Bool) → xs ≡ cs → ys ≡ ds
    → less ≡ is_some_and is_lt (slice_partial_cmp (λ x y. Some (nat_cmp x y)) xs ys) → IsTrue less ↔ IsBefore cs ds
before_by_comparison xs ys cs ds less first second is =
    let same : less ≡ is_lt (slice_cmp nat_cmp xs ys) = is ∙ ap (is_some_and is_lt) (lists_agrees {R = nat_cmp} (λ x y. refl) xs ys) in (
      λ yes_less. subst (λ (zs : List ℕ). IsBefore zs ds) first (subst (IsBefore xs) second (before_from_less xs ys (sym same ∙ yes_less))),
      λ before. same ∙ less_from_before xs ys (subst (λ (zs : List ℕ). IsBefore zs ys) (sym first) (subst (IsBefore cs) (sym second) before)),
    )
