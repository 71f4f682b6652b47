-- Chains of first moves.
use Rattle.std.proofs.Common.{◌≡◌, ℕ, zero, suc, ◌-◌, ◌≤◌, ◌⊎◌, List, inl, inr, sym, ap, ◌∙◌, subst, arith}
use Rattle.std.proofs.lemmas.Bool.{cases_lt}
use Rattle.strip_model.specs.Film.{FilmData}
use Rattle.strip_film.specs.Film.{all_scenes}
use Rattle.strip_film.specs.Finish.{EachOnce, steps_cost}
use Rattle.strip_film.specs.Path.{IsComplete, PathData}
use Rattle.strip_start.specs.Moves.{Improves, IsFirstMove, IsImproved, NoneBetter, moved}

module _ (film : FilmData) where
  -- an order has one first move
  one_first : (order : List ℕ) (a b c d : ℕ) → IsFirstMove film order a b → IsFirstMove film order c d → (a ≡ c) × (b ≡ d)
  one_first order a b c d one other = elim (cases_lt a c) [
    | inl less ↦ absurd (other.first a b (inl less) one.better)
    | inr from ↦ elim (cases_lt c a) [
      | inl more ↦ absurd (one.first c d (inl more) other.better)
      | inr same_from ↦ (
          let same : a ≡ c = omega (arith, from, same_from) in (
            same,
            elim (cases_lt b d) [
              | inl before ↦ absurd (other.first a b (inr (same, before)) one.better)
              | inr to ↦ elim (cases_lt d b) [
                | inl behind ↦ absurd (one.first c d (inr (sym same, behind)) other.better)
                | inr same_to ↦ omega (arith, to, same_to)
              ]
            ],
          ))
    ]
  ]

  -- chains that end where no move is better, or at the limit, end in the same order
  pub one_end : (limit n m : ℕ) (order a b : List ℕ) → n ≤ limit → m ≤ limit → Improves film n order a → Improves film m order b
      → (n ≡ limit) ⊎ NoneBetter film a → (m ≡ limit) ⊎ NoneBetter film b → a ≡ b
  one_end limit zero zero order a b few also one other ends stops = sym one ∙ other
  one_end limit zero (suc m) order a b few also one other (inl full) stops = absurd (omega (arith, also, full))
  one_end limit zero (suc m) order a b few also one (from, to, first, rest) (inr none) stops =
      absurd (subst (λ (xs : List ℕ). NoneBetter film xs) (sym one) none from to first.better)
  one_end limit (suc n) zero order a b few also one other ends (inl full) = absurd (omega (arith, few, full))
  one_end limit (suc n) zero order a b few also (from, to, first, rest) other ends (inr none) =
      absurd (subst (λ (xs : List ℕ). NoneBetter film xs) (sym other) none from to first.better)
  one_end limit (suc n) (suc m) order a b few also (from, to, first, rest) (from2, to2, first2, rest2) ends stops =
      let same = one_first order from to from2 to2 first first2 in
      let same_order : moved order from2 to2 ≡ moved order from to = λ i. moved order (sym same.0 i) (sym same.1 i) in
      one_end (limit - 1) n m (moved order from to) a b (omega (arith, few)) (omega (arith, also)) rest
      (subst (λ (xs : List ℕ). Improves film m xs b) same_order rest2)
      (less n a few ends) (less m b also stops)
    where
      less : (k : ℕ) (best : List ℕ) → suc k ≤ limit → (suc k ≡ limit) ⊎ NoneBetter film best → (k ≡ limit - 1) ⊎ NoneBetter film best
      less k best le (inl full) = inl (omega (arith, full))
      less k best le (inr none) = inr none

  pub one_improved : (order a b : List ℕ) → IsImproved film order a → IsImproved film order b → a ≡ b
  one_improved order a b one other = one_end 64 one.moves other.moves order a b one.few other.few one.chain other.chain one.ends other.ends

  pub chain_kept : (n : ℕ) (order best : List ℕ) → Improves film n order best → EachOnce film (all_scenes film) order → EachOnce film (all_scenes film) best
  chain_kept zero order best same each = subst (λ (xs : List ℕ). EachOnce film (all_scenes film) xs) same each
  chain_kept (suc n) order best (from, to, first, rest) each = chain_kept n (moved order from to) best rest first.better.once

  pub chain_no_dearer : (n : ℕ) (order best : List ℕ) → Improves film n order best
      → steps_cost film (all_scenes film) best ≤ steps_cost film (all_scenes film) order
  chain_no_dearer zero order best same = omega (arith, ap (steps_cost film (all_scenes film)) same)
  chain_no_dearer (suc n) order best (from, to, first, rest) =
      omega (arith, chain_no_dearer n (moved order from to) best rest, first.better.cheaper)

  -- one first move more
  pub chain_more : (n : ℕ) (order best : List ℕ) (from to : ℕ) → Improves film n order best → IsFirstMove film best from to
      → Improves film (suc n) order (moved best from to)
  chain_more zero order best from to same first = (
    from,
    to,
    subst (λ (xs : List ℕ). IsFirstMove film xs from to) (sym same) first,
    ap (λ (xs : List ℕ). moved xs from to) same,
  )
  chain_more (suc n) order best from to (from1, to1, first1, rest) first =
      (from1, to1, first1, chain_more n (moved order from1 to1) best from to rest first)

  -- so the path of the best costs no more
  pub paid_no_more : (n : ℕ) (path best : PathData) → IsComplete film path → IsComplete film best → Improves film n path.scenes best.scenes → best.paid ≤ path.paid
  paid_no_more n path best is other chain = omega (arith, is.0.steps, other.0.steps, chain_no_dearer n path.scenes best.scenes chain)
