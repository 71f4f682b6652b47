-- Pairs when a scene is taken out that stands in none.
use Rattle.std.proofs.Common.{◌≡◌, ◌≢◌, ℕ, ◌-◌, ◌<◌, ◌==◌, ◌||◌, true, false, List, [], ◌∷◌, ◌++◌, length, map, Contains, slice_index_or, refl, sym, ap, subst, ◌∙◌, inl, inr, arith}
use Rattle.std.proofs.lemmas.Bool.Decides.{nat_tests}
use Rattle.std.proofs.lemmas.List.{get_or-map, length-map, map-append}
use Rattle.std.proofs.lemmas.List.Elements.{All-contains_itself, All-map}
use Rattle.std.proofs.Math.Bool.{or-true}
use Rattle.strip_mask.specs.Set.{behind_gap}
use Rattle.strip_model.specs.declared.pair.Pair.{Pair}
use Rattle.strip_model.specs.Pairs.{FitPairs, HasCycle, IsChain, IsKnownPair, Precedes}
use Rattle.strip_model.proofs.Lists.{any_from, contains_here, contains_later, contains_cases, contains_none}
use Rattle.strip_reduce.specs.Steps.{is_paired, renumbered_pair}
use Rattle.strip_reduce.proofs.Places.{gap-renumbered, renumbered_once, renumbered_within}

-- a scene that stands in no pair of the list is neither of a pair's two
pub unpaired : (pairs : List Pair) (scene : ℕ) (pair : Pair) → is_paired pairs scene ≡ false → Contains pairs pair
    → (pair.first ≢ scene) × (pair.then ≢ scene)
unpaired pairs scene pair none there = (
  λ same. absurd (let some : is_paired pairs scene ≡ true = any_from (λ p. p.first == scene || p.then == scene) pairs pair there (rw (is_same pair.first scene same) refl) in cc),
  λ same. absurd (let some : is_paired pairs scene ≡ true = any_from (λ p. p.first == scene || p.then == scene) pairs pair there (rw (is_same pair.then scene same) (or-true (pair.first == scene))) in cc),
)
  where
    is_same : (x y : ℕ) → x ≡ y → (x == y) ≡ true
    is_same x y same = grind (arith, nat_tests)

-- the pair behind a renumbered one
pub record IsFrom (gone : ℕ) (pairs : List Pair) (pair : Pair) : Type 0 where
  pub before : Pair
  pub there : Contains pairs before
  pub made : renumbered_pair gone before ≡ pair

pub renumbered_from : (gone : ℕ) (pairs : List Pair) (pair : Pair) → Contains (map (renumbered_pair gone) pairs) pair → IsFrom gone pairs pair
renumbered_from gone [] pair there = absurd (contains_none pair there)
renumbered_from gone (first ∷ pairs) pair there = elim (contains_cases (renumbered_pair gone first) (map (renumbered_pair gone) pairs) pair there) [
  | inl same ↦ record { before = first; there = contains_here first pairs; made = same }
  | inr later ↦ (let rest : IsFrom gone pairs pair = renumbered_from gone pairs pair later in
      record { before = rest.before; there = contains_later first pairs rest.before rest.there; made = rest.made })
]

pub renumbered_there : (gone : ℕ) (pairs : List Pair) (pair : Pair) → Contains pairs pair → Contains (map (renumbered_pair gone) pairs) (renumbered_pair gone pair)
renumbered_there gone [] pair there = absurd (contains_none pair there)
renumbered_there gone (first ∷ pairs) pair there = elim (contains_cases first pairs pair there) [
  | inl same ↦ subst (λ (p : Pair). Contains (map (renumbered_pair gone) (first ∷ pairs)) (renumbered_pair gone p)) same (contains_here (renumbered_pair gone first) (map (renumbered_pair gone) pairs))
  | inr later ↦ contains_later (renumbered_pair gone first) (map (renumbered_pair gone) pairs) (renumbered_pair gone pair) (renumbered_there gone pairs pair later)
]

module _ (gone : ℕ) (pairs : List Pair) (none : is_paired pairs gone ≡ false) where
  precedes-before : (x y : ℕ) → Precedes (map (renumbered_pair gone) pairs) x y → Precedes pairs (behind_gap gone x) (behind_gap gone y)
  precedes-before x y precedes =
      let from : IsFrom gone pairs (record { first = x; then = y }) = renumbered_from gone pairs (record { first = x; then = y }) precedes in
      let other : (from.before.first ≢ gone) × (from.before.then ≢ gone) = unpaired pairs gone from.before none from.there in
      let first : from.before.first ≡ behind_gap gone x = sym (gap-renumbered gone from.before.first other.0) ∙ ap (λ (p : Pair). behind_gap gone p.first) from.made in
      let then : from.before.then ≡ behind_gap gone y = sym (gap-renumbered gone from.before.then other.1) ∙ ap (λ (p : Pair). behind_gap gone p.then) from.made in
      subst (Contains pairs) (λ i. record { first = first i; then = then i }) from.there

  chain-before : (scenes : List ℕ) → IsChain (map (renumbered_pair gone) pairs) scenes → IsChain pairs (map (behind_gap gone) scenes)
  chain-before [] chain = tt
  chain-before (x ∷ []) chain = tt
  chain-before (x ∷ y ∷ scenes) chain = (precedes-before x y chain.0, chain-before (y ∷ scenes) chain.1)

  cycle-before : HasCycle (map (renumbered_pair gone) pairs) → HasCycle pairs
  cycle-before cycle = record {
    scene = behind_gap gone cycle.scene;
    between = map (behind_gap gone) cycle.between;
    returns = subst (λ (scenes : List ℕ). IsChain pairs (behind_gap gone cycle.scene ∷ scenes)) (map-append (behind_gap gone) cycle.between (cycle.scene ∷ []))
        (chain-before (cycle.scene ∷ cycle.between ++ cycle.scene ∷ []) cycle.returns);
  }

  -- pairs that n scenes can have, when one is taken out that stands in none
  pub fit-renumbered : (n : ℕ) → gone < n → FitPairs n pairs → FitPairs (n - 1) (map (renumbered_pair gone) pairs)
  fit-renumbered n within fit = record {
    known = All-map (IsKnownPair (n - 1)) (renumbered_pair gone) pairs (λ k d lt. known_at (slice_index_or pairs k d) (at k d lt) (fit.known k d lt));
    once = λ i j d lt end. apart i j (record { first = 0; then = 0 }) d lt (omega (arith, end, length-map pairs (renumbered_pair gone)));
    no_cycle = λ cycle. fit.no_cycle (cycle-before cycle);
  }
    where
      at : (k : ℕ) (d : Pair) → k < length pairs → Contains pairs (slice_index_or pairs k d)
      at k d lt = All-contains_itself pairs k d lt

      known_at : (pair : Pair) → Contains pairs pair → IsKnownPair n pair → IsKnownPair (n - 1) (renumbered_pair gone pair)
      known_at pair there is =
          let other : (pair.first ≢ gone) × (pair.then ≢ gone) = unpaired pairs gone pair none there in (
            renumbered_within (n - 1) gone pair.first (omega (arith, within)) other.0 (omega (arith, within, is.0)),
            renumbered_within (n - 1) gone pair.then (omega (arith, within)) other.1 (omega (arith, within, is.1)),
            λ same. is.2 (renumbered_once gone pair.first pair.then other.0 other.1 same),
          )

      pair_once : (x y : Pair) → Contains pairs x → Contains pairs y → renumbered_pair gone x ≡ renumbered_pair gone y → x ≡ y
      pair_once x y x_there y_there same =
          let x_other : (x.first ≢ gone) × (x.then ≢ gone) = unpaired pairs gone x none x_there in
          let y_other : (y.first ≢ gone) × (y.then ≢ gone) = unpaired pairs gone y none y_there in
          let first : x.first ≡ y.first = renumbered_once gone x.first y.first x_other.0 y_other.0 (ap (λ (p : Pair). p.first) same) in
          let then : x.then ≡ y.then = renumbered_once gone x.then y.then x_other.1 y_other.1 (ap (λ (p : Pair). p.then) same) in
          λ i. record { first = first i; then = then i }

      apart : (i j : ℕ) (e d : Pair) → i < j → j < length pairs
          → slice_index_or (map (renumbered_pair gone) pairs) i d ≢ slice_index_or (map (renumbered_pair gone) pairs) j d
      apart i j e d lt end same =
          fit.once i j e lt end (pair_once (slice_index_or pairs i e) (slice_index_or pairs j e) (at i e (omega (arith, lt, end))) (at j e end)
          (sym (get_or-map (renumbered_pair gone) pairs i e d (omega (arith, lt, end))) ∙ same ∙ get_or-map (renumbered_pair gone) pairs j e d end))
