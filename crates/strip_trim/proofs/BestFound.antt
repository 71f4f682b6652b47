-- The place of a set's best line, and its bound.
use Rattle.std.proofs.Common.{◌≡◌, ℕ, ◌<◌, ◌≤◌, List, length, get_or, Contains, MatchResult, Result, Ok, Err, Some, None, inl, inr, ap, sym, ◌∙◌, arith}
use Rattle.std.specs.List.Sorted.{IsBinarySearchResult, IsStrictlyIncreasing}
use Rattle.std.specs.Ordering.{nat_cmp}
use Rattle.std.specs.Result.{result_ok}
use Rattle.std.proofs.lemmas.Bool.{cases_eq, cases_lt}
use Rattle.std.proofs.lemmas.List.{get_or_default, get_or-map, length-map}
use Rattle.std.proofs.lemmas.List.Kept.{AllPairs-from_increasing}
use Rattle.std.proofs.lemmas.List.Sorted.{searched}
use Rattle.strip_film.specs.declared.shared.Line.{Line}
use Rattle.strip_trim.specs.declared.best.BestLine.{BestLine}
use Rattle.strip_trim.specs.Best.{AreBestLines, IsPlaceOf, best_at, best_bound, no_best, sets_of}
use Rattle.strip_trim.proofs.BestKnown.{bound_best, bound_none}

set_at : (entries : List BestLine) (place : ℕ) → place < length entries → get_or (sets_of entries) place 0 ≡ (best_at entries place).set
set_at entries place lt = get_or-map (λ (best : BestLine). best.set) entries place no_best 0 lt

no_falls : (xs : List ℕ) → IsStrictlyIncreasing xs → (i j : ℕ) → i ≤ j → j < length xs → get_or xs i 0 ≤ get_or xs j 0
no_falls xs rising i j le within = elim (cases_eq i j) [
  | inl same ↦ (let e : get_or xs i 0 ≡ get_or xs j 0 = ap (λ (k : ℕ). get_or xs k 0) same in omega arith)
  | inr apart ↦ (let e = AllPairs-from_increasing xs rising i j 0 (omega (arith, le, apart)) within in omega (arith, e))
]

module _ (entries : List BestLine) (set : ℕ) where
  count : length (sets_of entries) ≡ length entries
  count = length-map entries (λ (best : BestLine). best.set)

  by_answer : (r : Result ℕ ℕ)
      → MatchResult r (λ i. (i < length (sets_of entries)) × (get_or (sets_of entries) i 0 ≡ set))
      (λ i. (i ≤ length (sets_of entries)) × ((k : ℕ) → k < i → get_or (sets_of entries) k 0 < set)
      × ((k : ℕ) → i ≤ k → k < length (sets_of entries) → set < get_or (sets_of entries) k 0))
      → IsPlaceOf entries set (result_ok r)
  by_answer (Ok i) (within, is) = let lt : i < length entries = omega (arith, within, count) in (lt, sym (set_at entries i lt) ∙ is)
  by_answer (Err i) (within, below, above) = λ place lt is.
      (let at : get_or (sets_of entries) place 0 ≡ set = set_at entries place lt ∙ is in
      elim (cases_lt place i) [
        | inl before ↦ omega (arith, below place before, at)
        | inr behind ↦ omega (arith, above place behind (omega (arith, lt, count)), at)
      ])

  -- what a binary search of the sets answers tells the place
  pub place_found : (r : Result ℕ ℕ) → IsStrictlyIncreasing (sets_of entries)
      → IsBinarySearchResult (λ y. nat_cmp y set) (sets_of entries) r → IsPlaceOf entries set (result_ok r)
  place_found r rising is = by_answer r (searched (sets_of entries) set r is (no_falls (sets_of entries) rising))

pub bound_at : (lines : List Line) (entries : List BestLine) (place set : ℕ) (best : BestLine) → AreBestLines lines entries
    → IsPlaceOf entries set (Some place) → best ≡ get_or entries place best → best.bound ≡ best_bound lines set
bound_at lines entries place set best are is at =
    let same : best ≡ best_at entries place = at ∙ get_or_default entries place best no_best is.0 in
    ap (λ (b : BestLine). b.bound) same ∙ (bound_best lines (best_at entries place) (are.each place no_best is.0) ∙ ap (best_bound lines) is.1)

pub bound_absent : (lines : List Line) (entries : List BestLine) (set : ℕ) → AreBestLines lines entries → IsPlaceOf entries set None → 0 ≡ best_bound lines set
bound_absent lines entries set are none = bound_none lines set (λ place lt is. absent (are.whole place lt) is)
  where
    absent : {other : ℕ} → Contains (sets_of entries) other → other ≡ set → ⊥
    absent {other} (place, within, at) is =
        let lt : place < length entries = omega (arith, within, length-map entries (λ (best : BestLine). best.set)) in
        none place lt (sym (set_at entries place lt) ∙ (get_or_default (sets_of entries) place 0 other within ∙ (at ∙ is)))
