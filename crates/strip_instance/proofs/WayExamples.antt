-- A worked row of the definition: of two ways with as many scenes the one by the lesser scene.
use Rattle.std.proofs.Common.{◌≡◌, ℕ, ◌≤◌, List, [], ◌∷◌, ◌++◌, length, All, refl, ap, subst, arith, ◌⊎◌, inl, inr}
use Rattle.std.proofs.lemmas.List.{length-append}
use Rattle.std.proofs.lemmas.List.Elements.{All-nil, All-cons, All-contains}
use Rattle.strip_model.specs.declared.pair.Pair.{Pair}
use Rattle.strip_model.specs.Order.{IsBefore}
use Rattle.strip_model.specs.Pairs.{IsChain, Precedes}
use Rattle.strip_instance.specs.Ways.{IsShortestWay}

abbrev pair : ℕ → ℕ → Pair
pair first second = record { first = first; then = second }

abbrev diamond : List Pair
diamond = pair 0 2 ∷ pair 0 1 ∷ pair 2 3 ∷ pair 1 3 ∷ []

-- no pair of it leads from scene 0 to itself or to scene 3
abbrev Fits : Pair → Type 0
Fits one = one.first ≡ 0 → (one.then ≡ 1) ⊎ (one.then ≡ 2)

all_fit : All Fits diamond
all_fit = All-cons Fits (pair 0 2) (pair 0 1 ∷ pair 2 3 ∷ pair 1 3 ∷ []) (λ _. inr refl) (All-cons Fits (pair 0 1) (pair 2 3 ∷ pair 1 3 ∷ []) (λ _. inl refl)
    (All-cons Fits (pair 2 3) (pair 1 3 ∷ []) (λ first. absurd (omega (arith, first))) (All-cons Fits (pair 1 3) [] (λ first. absurd (omega (arith, first))) (All-nil Fits))))

from_0 : (next : ℕ) → Precedes diamond 0 next → (next ≡ 1) ⊎ (next ≡ 2)
from_0 next there = All-contains Fits diamond (pair 0 next) all_fit there refl

of_two : IsShortestWay diamond 0 3 (0 ∷ 1 ∷ 3 ∷ [])
of_two = record {
  way = record { between = 1 ∷ []; ends = refl; chain = ((1, omega arith, refl), ((3, omega arith, refl), tt)) };
  fewest = λ other way. fewest way.between other way.ends (subst (IsChain diamond) way.ends way.chain);
  first = λ other way same before. first way.between (subst (λ (xs : List ℕ). length xs ≡ 3) way.ends same)
      (subst (IsChain diamond) way.ends way.chain) (subst (λ (xs : List ℕ). IsBefore xs (0 ∷ 1 ∷ 3 ∷ [])) way.ends before);
}
  where
    fewest : (between other : List ℕ) → other ≡ 0 ∷ between ++ 3 ∷ [] → IsChain diamond (0 ∷ between ++ 3 ∷ []) → 3 ≤ length other
    fewest [] other is chain = elim (from_0 3 chain.0) [ inl one ↦ absurd (omega (arith, one)) | inr two ↦ absurd (omega (arith, two)) ]
    fewest (x ∷ []) other is chain = omega (arith, ap length is)
    fewest (x ∷ y ∷ ys) other is chain = omega (arith, ap length is)

    first : (between : List ℕ) → length (0 ∷ between ++ 3 ∷ []) ≡ 3 → IsChain diamond (0 ∷ between ++ 3 ∷ [])
        → IsBefore (0 ∷ between ++ 3 ∷ []) (0 ∷ 1 ∷ 3 ∷ []) → ⊥
    first [] same chain before = omega (arith, same)
    first (x ∷ xs) same chain (inl less) = omega (arith, less)
    first (x ∷ xs) same chain (inr (tie, inl less)) = elim (from_0 x chain.0) [ inl one ↦ omega (arith, one, less) | inr two ↦ omega (arith, two, less) ]
    first (x ∷ []) same chain (inr (tie, inr (equal, inl less))) = omega (arith, less)
    first (x ∷ []) same chain (inr (tie, inr (equal, inr later))) = later.1
    first (x ∷ y ∷ ys) same chain (inr (tie, inr later)) = omega (arith, same, length-append ys (3 ∷ []))
