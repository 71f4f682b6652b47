-- The scenes of an order and their places in it.
use Rattle.std.proofs.Common.{◌≡◌, ◌≢◌, ℕ, zero, suc, ◌<◌, ◌≤◌, false, eqb, List, [], ◌∷◌, ◌++◌, length, get_or, map, Contains, sym, ap, ◌∙◌, subst, inl, inr, arith}
use Rattle.std.proofs.lemmas.Bool.{cases_lt}
use Rattle.std.proofs.lemmas.Bool.Decides.{nat_tests}
use Rattle.std.proofs.lemmas.List.{get_or_default, get_or-map, length-map, map-append}
use Rattle.std.proofs.lemmas.List.Elements.{All-map}
use Rattle.std.proofs.lemmas.List.Sums.{fails_before_first, passes_at_first}
use Rattle.strip_model.specs.declared.pair.Pair.{Pair}
use Rattle.strip_model.specs.Order.{IsOrder}
use Rattle.strip_model.specs.Pairs.{FitPairs, IsChain, IsKnownPair, Precedes}
use Rattle.strip_model.proofs.Counts.{contains_counted, count, count-cons, counted_contains, length-order, tie, tie-same}
use Rattle.strip_instance.specs.Arranged.{pair_in, place_in}

-- the pair whose scenes stand at these places
abbrev pub back_in : List ℕ → Pair → Pair
back_in order pair = record { first = get_or order pair.first 0; then = get_or order pair.then 0 }

-- a number that stands at two places is counted twice
twice : (xs : List ℕ) (i j : ℕ) → i < j → j < length xs → get_or xs i 0 ≡ get_or xs j 0 → 2 ≤ count (get_or xs j 0) xs
twice [] i j before within same = absurd (omega (arith, within))
twice (x ∷ xs) i zero before within same = absurd (omega (arith, before))
twice (x ∷ xs) zero (suc j) before within same =
    let number = get_or xs j 0 in
    let one : tie x number ≡ 1 = subst (λ (y : ℕ). tie x y ≡ 1) same (tie-same x) in
    let inside : j < length xs = omega (arith, within) in
    omega (arith, count-cons number x xs, one, counted_contains number xs (j, inside, get_or_default xs j number 0 inside))
twice (x ∷ xs) (suc i) (suc j) before within same =
    omega (arith, count-cons (get_or xs j 0) x xs, twice xs i j (omega (arith, before)) (omega (arith, within)) same)

module _ (n : ℕ) (order : List ℕ) (is_order : IsOrder n order) where
  within_order : (scene : ℕ) → scene < n → place_in order scene < length order
  within_order scene known =
      let once = is_order.once scene known in
      let found : Contains order scene = contains_counted scene order (omega (arith, once)) in
      elim (cases_lt found.0 (place_in order scene)) [
        | inl before ↦ absurd (let itself : eqb (get_or order found.0 scene) scene ≡ false = fails_before_first (λ other. eqb other scene) order found.0 scene before in
            let same : get_or order found.0 scene ≡ scene = found.2 in
            let other : eqb scene scene ≡ false = subst (λ (x : ℕ). eqb x scene ≡ false) same itself in
            grind (arith, nat_tests))
        | inr behind ↦ omega (arith, behind, found.1)
      ]

  -- the place of a scene is below the number of scenes
  pub place_below : (scene : ℕ) → scene < n → place_in order scene < n
  place_below scene known = omega (arith, within_order scene known, length-order n order is_order)

  -- and the scene stands there
  pub at_place : (scene : ℕ) → scene < n → get_or order (place_in order scene) 0 ≡ scene
  at_place scene known =
      let tie = passes_at_first (λ other. eqb other scene) order 0 (within_order scene known) in
      grind (arith, nat_tests, tie)

  -- different places have different scenes
  pub apart_at : (i j : ℕ) → i < j → j < length order → get_or order i 0 ≢ get_or order j 0
  apart_at i j before within = λ same.
      let scene = get_or order j 0 in
      let once = is_order.once scene (is_order.known j 0 within) in
      omega (arith, once, twice order i j before within same)

  -- a pair is told by its places
  pub back : (pair : Pair) → IsKnownPair n pair → back_in order (pair_in order pair) ≡ pair
  back pair known = λ i. record { first = at_place pair.first known.0 i; then = at_place pair.then known.1 i }

  apart_places : (a b : ℕ) → a < n → b < n → a ≢ b → place_in order a ≢ place_in order b
  apart_places a b one two other = λ same. other (sym (at_place a one) ∙ ap (λ (place : ℕ). get_or order place 0) same ∙ at_place b two)

  module _ (pairs : List Pair) (fit : FitPairs n pairs) where
    none : Pair
    none = record { first = 0; then = 0 }

    -- a pair of places is one of scenes
    precedes_back : (first second : ℕ) → Precedes (map (pair_in order) pairs) first second → Precedes pairs (get_or order first 0) (get_or order second 0)
    precedes_back first second (k, lt, at) =
        let within : k < length pairs = omega (arith, lt, length-map pairs (pair_in order)) in
        let pair = get_or pairs k none in
        let moved : pair_in order pair ≡ record { first = first; then = second } = sym (get_or-map (pair_in order) pairs k none (record { first = first; then = second }) within) ∙ at in
        let same : pair ≡ record { first = get_or order first 0; then = get_or order second 0 }
        = sym (back pair (fit.known k none within)) ∙ ap (back_in order) moved in
        subst (Contains pairs) same (k, within, get_or_default pairs k pair none within)

    chain_back : (scenes : List ℕ) → IsChain (map (pair_in order) pairs) scenes → IsChain pairs (map (λ place. get_or order place 0) scenes)
    chain_back [] chain = tt
    chain_back (scene ∷ []) chain = tt
    chain_back (scene ∷ next ∷ later) chain = (precedes_back scene next chain.0, chain_back (next ∷ later) chain.1)

    -- pairs by their places fit where the pairs do
    pub fit_places : FitPairs n (map (pair_in order) pairs)
    fit_places = record {
      known = All-map (IsKnownPair n) (pair_in order) pairs (λ k d within.
          let known = fit.known k d within in
          let pair = get_or pairs k d in
          (place_below pair.first known.0, place_below pair.then known.1, apart_places pair.first pair.then known.0 known.1 known.2));
      once = λ i j d lt within.
          let second : j < length pairs = omega (arith, within, length-map pairs (pair_in order)) in
          let first : i < length pairs = omega (arith, lt, second) in
          let one = get_or pairs i none in
          let two = get_or pairs j none in
          λ same. fit.once i j none lt second (sym (back one (fit.known i none first))
          ∙ ap (back_in order) (sym (get_or-map (pair_in order) pairs i none d first) ∙ same ∙ get_or-map (pair_in order) pairs j none d second)
          ∙ back two (fit.known j none second));
      no_cycle = λ cycle. fit.no_cycle (record {
        scene = get_or order cycle.scene 0;
        between = map (λ place. get_or order place 0) cycle.between;
        returns = subst (IsChain pairs) (ap (λ (scenes : List ℕ). get_or order cycle.scene 0 ∷ scenes) (map-append (λ place. get_or order place 0) cycle.between (cycle.scene ∷ [])))
            (chain_back (cycle.scene ∷ cycle.between ++ cycle.scene ∷ []) cycle.returns);
      });
    }
