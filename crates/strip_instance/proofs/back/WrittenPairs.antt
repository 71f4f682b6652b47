-- The rows of the pairs in a canonical text: they say the pairs and have no fault.
use Rattle.std.proofs.Common.{◌≡◌, ◌≢◌, ◌<◌, ◌+◌, ℕ, true, false, not, cond, eqb, ltb, suc, List, [], ◌∷◌, ◌++◌, length, get_or, map, take, filter, filter_map, All, None, Some, codes, refl, ap, ◌∙◌, subst, inl, inr, arith}
use Rattle.std.specs.List.{AllPairs, cons_option, position_or_len}
use Rattle.std.specs.Str.{bytes_eq}
use Rattle.std.proofs.lemmas.Bool.{cases_Bool, cond-false, cond-true, lt-ltb, ne_eqb, not_from_false}
use Rattle.std.proofs.lemmas.List.{get_or-map, length-map, take-map, take_more}
use Rattle.std.proofs.lemmas.List.Elements.{All-head, All-tail, All-map, All-weaker}
use Rattle.std.proofs.lemmas.List.Sums.{position_or_len_is}
use Rattle.std.proofs.lemmas.Slice.Eq.{bytes_eq-Decides}
use Rattle.strip_model.specs.declared.pair.Pair.{Pair}
use Rattle.strip_model.specs.Pairs.{FitPairs, IsKnownPair}
use Rattle.strip_model.proofs.Fits.{fit-take, last_not_back}
use Rattle.strip_text.specs.Field.{Field, trimmed}
use Rattle.strip_text.specs.Checks.{first_fault}
use Rattle.strip_text.specs.Rows.{Row, field_of, row_of}
use Rattle.strip_text.proofs.Held.{Hold, hold-below}
use Rattle.strip_instance.specs.Befores.{each_once, number_of_scene, pair_between, pairs_of, said_pair, same_pair}
use Rattle.strip_instance.specs.Faults.{before_checks, befores_checks, later_checks}
use Rattle.strip_instance.proofs.pairs.Fit.{row_passes}
use Rattle.strip_instance.proofs.pairs.Ways.{same_pair-true}
use Rattle.strip_instance.specs.Canonical.{pair_fields}
use Rattle.strip_instance.proofs.back.HeldScenes.{filter-all}
use Rattle.strip_instance.proofs.back.ReadableNames.{bytes_differ}

-- pairs that differ stand once each
differ_tested : (a b : Pair) → a ≢ b → same_pair a b ≡ false
differ_tested a b differ = elim (cases_Bool (same_pair a b)) [
  | inl same ↦ absurd (differ (same_pair-true a b same))
  | inr other ↦ other
]

each_once-same : (pairs : List Pair) → AllPairs (λ a b. a ≢ b) pairs → each_once pairs ≡ pairs
each_once-same [] differ = refl
each_once-same (pair ∷ pairs) differ =
    let rest : AllPairs (λ a b. a ≢ b) pairs = λ i j d lt within. differ (suc i) (suc j) d (omega (arith, lt)) (omega (arith, within)) in
    let apart : All (λ other. not (same_pair pair other) ≡ true) pairs
    = λ k d within. not_from_false _ (differ_tested pair (get_or pairs k d) (differ 0 (suc k) d (omega arith) (omega (arith, within)))) in
    ap (λ (list : List Pair). pair ∷ filter (λ other. not (same_pair pair other)) list) (each_once-same pairs rest)
    ∙ ap (λ (list : List Pair). pair ∷ list) (filter-all (λ other. not (same_pair pair other)) pairs apart)

module _ (names : List Field) (differ : AllPairs (λ a b. a ≢ b) names) where
  -- a name is found at its place
  number-at : (n : ℕ) → n < length names → number_of_scene names (field_of names n) ≡ Some n
  number-at n within =
      let name = get_or names n [] in
      let place : position_or_len (λ other. bytes_eq other name) names ≡ n
      = position_or_len_is (λ other. bytes_eq other name) names n [] (omega (arith, within))
      (λ k before. bytes_differ (get_or names k []) name (differ k n [] before within)) (λ _. (bytes_eq-Decides name name).1 refl) in
      ap (λ at. cond (ltb at (length names)) (Some at) None) place ∙ cond-true (ltb n (length names)) (Some n) None (lt-ltb n (length names) within)

  -- the row of a pair says it
  said_written : (pair : Pair) → IsKnownPair (length names) pair → said_pair names (pair_fields names pair) ≡ Some pair
  said_written pair known =
      let first = number-at pair.first known.0 in
      let second = number-at pair.then known.1 in
      (λ i. pair_between (first i) (second i)) ∙ cond-false (eqb pair.first pair.then) None (Some pair) (ne_eqb pair.first pair.then known.2)

  all_said : (pairs : List Pair) → All (IsKnownPair (length names)) pairs → filter_map (said_pair names) (map (pair_fields names) pairs) ≡ pairs
  all_said [] known = refl
  all_said (pair ∷ pairs) known =
      ap (λ said. cons_option said (filter_map (said_pair names) (map (pair_fields names) pairs)))
      (said_written pair (All-head (IsKnownPair (length names)) pair pairs known))
      ∙ ap (λ (list : List Pair). pair ∷ list) (all_said pairs (All-tail (IsKnownPair (length names)) pair pairs known))

  -- the rows say the pairs
  pub pairs_of-written : (pairs : List Pair) → FitPairs (length names) pairs → pairs_of names (map (pair_fields names) pairs) ≡ pairs
  pairs_of-written pairs fit = ap each_once (all_said pairs fit.known) ∙ each_once-same pairs fit.once

  -- and have no fault
  pub befores_hold : (first : ℕ) (pairs : List Pair) → FitPairs (length names) pairs → Hold (befores_checks names first (map (pair_fields names) pairs))
  befores_hold first pairs fit =
      let rows = map (pair_fields names) pairs in
      hold-below (length rows) (later_checks names first rows) (λ k within. place_holds k (omega (arith, within, length-map pairs (pair_fields names))))
    where
      none : Pair
      none = record { first = 0; then = 0 }

      place_holds : (k : ℕ) → k < length pairs → Hold (later_checks names first (map (pair_fields names) pairs) k)
      place_holds k within =
          let rows = map (pair_fields names) pairs in
          let pair = get_or pairs k none in
          let known : IsKnownPair (length names) pair = fit.known k none within in
          let front = fit-take (length names) k pairs fit in
          let before : pairs_of names (take k rows) ≡ take k pairs
          = ap (pairs_of names) (take-map (pair_fields names) k pairs) ∙ pairs_of-written (take k pairs) front in
          let here : row_of rows k ≡ pair_fields names pair = get_or-map (pair_fields names) pairs k none [] within in
          let more : FitPairs (length names) (take k pairs ++ pair ∷ []) = subst (FitPairs (length names)) (take_more pairs k none within) (fit-take (length names) (k + 1) pairs fit) in
          record {
            none = ap (λ (list : List Pair). first_fault (before_checks names list (first + k) (row_of rows k))) before
                ∙ ap (λ (row : Row). first_fault (before_checks names (take k pairs) (first + k) row)) here
                ∙ row_passes names (take k pairs) (first + k) (pair_fields names pair) pair front refl (said_written pair known)
                (last_not_back (length names) (take k pairs) pair more);
          }

  -- trimming changes no field of them
  pub trimmed-pairs : (pairs : List Pair) → All (λ name. trimmed name ≡ name) names → All (IsKnownPair (length names)) pairs
      → All (λ row. map trimmed row ≡ row) (map (pair_fields names) pairs)
  trimmed-pairs pairs bare known =
      All-map (λ row. map trimmed row ≡ row) (pair_fields names) pairs
      (All-weaker (IsKnownPair (length names)) (λ pair. map trimmed (pair_fields names pair) ≡ pair_fields names pair) (λ pair is.
      let first = bare pair.first [] is.0 in
      let second = bare pair.then [] is.1 in
      λ i. codes "before" ∷ first i ∷ second i ∷ []) pairs known)
