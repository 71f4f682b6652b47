-- Chains of pairs, and that one of more scenes than there are comes back.
use Rattle.std.proofs.Common.{◌≡◌, ℕ, zero, suc, ◌+◌, ◌<◌, Bool, true, false, ◌&&◌, eqb, List, [], ◌∷◌, ◌++◌, length, All, Contains, refl, sym, ap, subst, arith, append_assoc, inl, inr}
use Rattle.std.specs.List.{list_any}
use Rattle.std.proofs.lemmas.Bool.{cases_Bool, and_parts}
use Rattle.std.proofs.lemmas.Bool.Decides.{nat_tests}
use Rattle.std.proofs.lemmas.List.Elements.{All-nil, All-cons}
use Rattle.strip_model.specs.declared.pair.Pair.{Pair}
use Rattle.strip_model.specs.Pairs.{Precedes, IsChain, HasCycle}
use Rattle.strip_model.proofs.Lists.{any_from, any_is}
use Rattle.strip_model.proofs.Counts.{Repeats, repeats}

module _ (pairs : List Pair) where
  chain-tail : (x : ℕ) (xs : List ℕ) → IsChain pairs (x ∷ xs) → IsChain pairs xs
  chain-tail x [] chain = tt
  chain-tail x (y ∷ ys) chain = chain.1

  pub chain-behind : (before xs : List ℕ) → IsChain pairs (before ++ xs) → IsChain pairs xs
  chain-behind [] xs chain = chain
  chain-behind (x ∷ before) xs chain = chain-behind before xs (chain-tail x (before ++ xs) chain)

  pub chain-front : (xs after : List ℕ) → IsChain pairs (xs ++ after) → IsChain pairs xs
  chain-front [] after chain = tt
  chain-front (x ∷ []) after chain = tt
  chain-front (x ∷ y ∷ ys) after chain = (chain.0, chain-front (y ∷ ys) after chain.1)

  -- a chain of more scenes than there are comes back to one of them
  pub cycle_from_long : (n : ℕ) (xs : List ℕ) → IsChain pairs xs → All (λ x. x < n) xs → n < length xs → HasCycle pairs
  cycle_from_long n xs chain known more =
      let twice : Repeats xs = repeats n xs known more in
      let behind : IsChain pairs (twice.number ∷ (twice.between ++ twice.number ∷ twice.after))
      = chain-behind twice.before (twice.number ∷ (twice.between ++ twice.number ∷ twice.after)) (subst (IsChain pairs) twice.parts chain) in
      let regrouped : IsChain pairs ((twice.number ∷ twice.between ++ twice.number ∷ []) ++ twice.after)
      = subst (IsChain pairs) (ap (λ (zs : List ℕ). twice.number ∷ zs) (sym (append_assoc twice.between (twice.number ∷ []) twice.after))) behind in
      record { scene = twice.number; between = twice.between; returns = chain-front (twice.number ∷ twice.between ++ twice.number ∷ []) twice.after regrouped }

  -- ---- the first scene of a set

  module _ (n : ℕ) (inside : ℕ → Bool) (below : (x : ℕ) → inside x ≡ true → x < n) (no_cycle : HasCycle pairs → ⊥) where
    -- whether a scene inside has to come before this one
    abbrev is_behind : ℕ → Bool
    is_behind scene = list_any (λ pair. eqb pair.then scene && inside pair.first) pairs

    one_before : (scene : ℕ) → is_behind scene ≡ true → (first : ℕ) × Precedes pairs first scene × (inside first ≡ true)
    one_before scene behind =
        let found = any_is (λ pair. eqb pair.then scene && inside pair.first) pairs behind in
        let parts = and_parts (eqb found.0.then scene) (inside found.0.first) found.2 in
        let tie : eqb found.0.then scene ≡ true = parts.0 in
        let same : found.0.then ≡ scene = grind (arith, nat_tests) in
        (found.0.first, subst (λ (second : ℕ). Contains pairs (record { first = found.0.first; then = second })) same found.1, parts.1)

    none_before : (scene : ℕ) → is_behind scene ≡ false → (first : ℕ) → Precedes pairs first scene → inside first ≡ false
    none_before scene free first precedes = elim (cases_Bool (inside first)) [
      | inl member ↦ absurd (let itself : eqb scene scene ≡ true = grind (arith, nat_tests) in
          let passes : (eqb scene scene && inside first) ≡ true = rw (itself, member) refl in
          let behind : is_behind scene ≡ true = any_from (λ pair. eqb pair.then scene && inside pair.first) pairs (record { first = first; then = scene }) precedes passes in
          cc)
      | inr absent ↦ absent
    ]

    walk : (fuel scene : ℕ) (later : List ℕ) → inside scene ≡ true → IsChain pairs (scene ∷ later) → All (λ x. x < n) (scene ∷ later)
        → n < fuel + length (scene ∷ later) → (first : ℕ) × (inside first ≡ true) × ((other : ℕ) → Precedes pairs other first → inside other ≡ false)
    walk zero scene later member chain known more = absurd (no_cycle (cycle_from_long n (scene ∷ later) chain known (omega (arith, more))))
    walk (suc fuel) scene later member chain known more = elim (cases_Bool (is_behind scene)) [
      | inl behind ↦ (let earlier = one_before scene behind in
          walk fuel earlier.0 (scene ∷ later) earlier.2 (earlier.1, chain) (All-cons (λ x. x < n) earlier.0 (scene ∷ later) (below earlier.0 earlier.2) known) (omega (arith, more)))
      | inr free ↦ (scene, member, none_before scene free)
    ]

    -- without a cycle, a set that isn't empty has a scene that no pair puts behind another of it
    first_from : (x : ℕ) → inside x ≡ true → (scene : ℕ) × (inside scene ≡ true) × ((first : ℕ) → Precedes pairs first scene → inside first ≡ false)
    first_from x member = walk n x [] member tt (All-cons (λ y. y < n) x [] (below x member) (All-nil (λ y. y < n))) (omega arith)

pub some_first : (pairs : List Pair) (n : ℕ) (inside : ℕ → Bool) → ((x : ℕ) → inside x ≡ true → x < n) → (HasCycle pairs → ⊥)
    → (x : ℕ) → inside x ≡ true → (scene : ℕ) × (inside scene ≡ true) × ((first : ℕ) → Precedes pairs first scene → inside first ≡ false)
some_first pairs n inside below no_cycle x member = first_from pairs n inside below no_cycle x member
