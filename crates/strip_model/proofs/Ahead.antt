-- Which of two numbers stands before the other in a list.
use Rattle.std.proofs.Common.{◌≡◌, ℕ, zero, suc, ◌+◌, ◌<◌, ◌≤◌, List, [], ◌∷◌, ◌++◌, length, get_or, drop, Contains, inl, inr, subst, arith, add-one}
use Rattle.std.proofs.lemmas.Bool.{cases_lt}
use Rattle.std.proofs.lemmas.List.Elements.{All-contains}
use Rattle.strip_model.specs.declared.pair.Pair.{Pair}
use Rattle.strip_model.specs.Order.{IsOrder, StandsBefore, Keeps, KeepsPair}
use Rattle.strip_model.specs.Pairs.{IsChain, HasCycle}
use Rattle.strip_mask.proofs.Lists.{contains_later}
use Rattle.strip_model.proofs.Counts.{count, tie, tie-same, count-cons, count-none, counted_contains}

pub stands_from : (a b : ℕ) (xs : List ℕ) (i : ℕ) → i < length xs → get_or xs i 0 ≡ a → Contains (drop (suc i) xs) b → StandsBefore a b xs
stands_from a b [] i within at behind = absurd (omega (arith, within))
stands_from a b (x ∷ xs) zero within at behind = inl (at, behind)
stands_from a b (x ∷ xs) (suc i) within at behind = inr (stands_from a b xs i (omega (arith, within)) at behind)

pub stands_at : (a b : ℕ) (xs : List ℕ) (i : ℕ) → i < length xs → get_or xs i 0 ≡ a → Contains (drop (i + 1) xs) b → StandsBefore a b xs
stands_at a b xs i within at behind = stands_from a b xs i within at (rw add-one at behind)

-- the first stands in the list, and so does the second
pub stands_first : (a b : ℕ) (xs : List ℕ) → StandsBefore a b xs → Contains xs a
stands_first a b [] stands = absurd stands
stands_first a b (x ∷ xs) (inl (same, behind)) = (0, omega arith, same)
stands_first a b (x ∷ xs) (inr later) = contains_later x xs a (stands_first a b xs later)

pub stands_second : (a b : ℕ) (xs : List ℕ) → StandsBefore a b xs → Contains xs b
stands_second a b [] stands = absurd stands
stands_second a b (x ∷ xs) (inl (same, behind)) = contains_later x xs b behind
stands_second a b (x ∷ xs) (inr later) = contains_later x xs b (stands_second a b xs later)

-- ---- in a list that has no number twice

pub once_behind : (x y : ℕ) (ys : List ℕ) → ((i : ℕ) → count i (x ∷ ys) ≤ 1) → x ≡ y → Contains ys y → ⊥
once_behind x y ys once same there =
    let tied : tie x y ≡ 1 = subst (λ (i : ℕ). tie x i ≡ 1) same (tie-same x) in
    omega (arith, once y, count-cons y x ys, counted_contains y ys there)

pub once-tail : (x : ℕ) (xs : List ℕ) → ((i : ℕ) → count i (x ∷ xs) ≤ 1) → (i : ℕ) → count i xs ≤ 1
once-tail x xs once i = omega (arith, once i, count-cons i x xs)

stands_trans : (a b c : ℕ) (xs : List ℕ) → ((i : ℕ) → count i xs ≤ 1) → StandsBefore a b xs → StandsBefore b c xs → StandsBefore a c xs
stands_trans a b c [] once first second = absurd first
stands_trans a b c (x ∷ xs) once (inl (same, behind)) (inl (tied, further)) = inl (same, further)
stands_trans a b c (x ∷ xs) once (inl (same, behind)) (inr later) = inl (same, stands_second b c xs later)
stands_trans a b c (x ∷ xs) once (inr first) (inl (tied, further)) = absurd (once_behind x b xs once tied (stands_second a b xs first))
stands_trans a b c (x ∷ xs) once (inr first) (inr second) = inr (stands_trans a b c xs (once-tail x xs once) first second)

stands_itself : (a : ℕ) (xs : List ℕ) → ((i : ℕ) → count i xs ≤ 1) → StandsBefore a a xs → ⊥
stands_itself a [] once stands = stands
stands_itself a (x ∷ xs) once (inl (same, behind)) = once_behind x a xs once same behind
stands_itself a (x ∷ xs) once (inr later) = stands_itself a xs (once-tail x xs once) later

chain_stands : (pairs : List Pair) (order : List ℕ) (scene : ℕ) (between : List ℕ) (last : ℕ) → ((i : ℕ) → count i order ≤ 1) → Keeps pairs order
    → IsChain pairs (scene ∷ between ++ last ∷ []) → StandsBefore scene last order
chain_stands pairs order scene [] last once keeps chain = All-contains (KeepsPair order) pairs (record { first = scene; then = last }) keeps chain.0
chain_stands pairs order scene (next ∷ between) last once keeps chain =
    stands_trans scene next last order once (All-contains (KeepsPair order) pairs (record { first = scene; then = next }) keeps chain.0)
    (chain_stands pairs order next between last once keeps chain.1)

-- in an order no number stands twice
pub once_each : (n : ℕ) (order : List ℕ) → IsOrder n order → (i : ℕ) → count i order ≤ 1
once_each n order is i = elim (cases_lt i n) [
  | inl lt ↦ omega (arith, is.once i lt)
  | inr past ↦ omega (arith, count-none n i order is.known past)
]

-- no order keeps pairs that come back to a scene
pub cycle_not_kept : (n : ℕ) (pairs : List Pair) (order : List ℕ) → IsOrder n order → Keeps pairs order → HasCycle pairs → ⊥
cycle_not_kept n pairs order is keeps cycle =
    stands_itself cycle.scene order (once_each n order is) (chain_stands pairs order cycle.scene cycle.between cycle.scene (once_each n order is) keeps cycle.returns)
