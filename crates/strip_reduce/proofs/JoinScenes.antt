-- To join two scenes of equal cast that stand in no pair keeps every order, and every one that keeps the pairs at no more cost.
use Rattle.std.proofs.Common.{◌≡◌, ◌≢◌, ℕ, ◌+◌, ◌<◌, ◌≤◌, true, false, eqb, not, ◌&&◌, List, [], ◌∷◌, ◌++◌, length, map, slice_index, slice_index_or, All, refl, sym, ap, ◌∙◌, subst, arith, length-set}
use Rattle.std.specs.List.{flat_map, remove}
use Rattle.std.proofs.lemmas.Bool.{and_parts, not-true, eqb-true}
use Rattle.std.proofs.lemmas.Grind.{flat_map-append}
use Rattle.std.proofs.lemmas.List.Edits.{length-remove}
use Rattle.std.proofs.lemmas.List.Elements.{All-contains}
use Rattle.strip_mask.specs.Set.{behind_gap}
use Rattle.strip_model.specs.declared.pair.Pair.{Pair}
use Rattle.strip_model.specs.Film.{FilmData}
use Rattle.strip_model.specs.Order.{IsOrder, IsKeptOrder, KeepsPair, Keeps}
use Rattle.strip_model.specs.Pay.{pay_of}
use Rattle.strip_model.proofs.Blocks.{All-from_contains}
use Rattle.strip_model.proofs.Counts.{count, tie, tie-same, count-cons, count-append, permuted_by_counts, order_permuted}
use Rattle.strip_reduce.specs.State.{State, IsState}
use Rattle.strip_reduce.specs.Steps.{is_paired, can_join_scenes, renumbered, scenes_joined}
use Rattle.strip_reduce.proofs.StepKeeps.{IsBackFrom, StepKeeps}
use Rattle.strip_reduce.proofs.JoinScenesPieces.{pieces, pieces-both, pieces-one, order_of_pieces}
use Rattle.strip_reduce.proofs.Places.{gap_below, gap-renumbered}
use Rattle.strip_reduce.proofs.Renumber.{unpaired}
use Rattle.strip_reduce.proofs.JoinScenesBack.{IsApart, pair_kept, pay_back, join_back}
use Rattle.strip_reduce.proofs.JoinScenesBeside.{Beside, stand_beside}

-- ---- what the test tells

pairs_apart : (pairs : List Pair) (a b : ℕ) → is_paired pairs a ≡ false → is_paired pairs b ≡ false → All (IsApart a b) pairs
pairs_apart pairs a b none_a none_b = All-from_contains (IsApart a b) pairs (λ pair there.
    let from_a = unpaired pairs a pair none_a there in
    let from_b = unpaired pairs b pair none_b there in
    (from_a.0, from_b.0, from_a.1, from_b.1))

equal_casts : (film : FilmData) (a b : ℕ) → can_join_scenes film a b ≡ true → slice_index film.casts a ≡ slice_index film.casts b
equal_casts film a b can = eqb-true (slice_index film.casts a) (slice_index film.casts b)
    (and_parts (eqb (slice_index film.casts a) (slice_index film.casts b)) (not (is_paired film.pairs a) && not (is_paired film.pairs b)) can).0

apart_by_test : (film : FilmData) (a b : ℕ) → can_join_scenes film a b ≡ true → All (IsApart a b) film.pairs
apart_by_test film a b can =
    let free = and_parts (eqb (slice_index film.casts a) (slice_index film.casts b)) (not (is_paired film.pairs a) && not (is_paired film.pairs b)) can in
    let each = and_parts (not (is_paired film.pairs a)) (not (is_paired film.pairs b)) free.1 in
    pairs_apart film.pairs a b (not-true (is_paired film.pairs a) each.0) (not-true (is_paired film.pairs b) each.1)

-- ---- an order with the two side by side comes from one after the join

module _ (a b : ℕ) (less : a < b) where
  pieces_of_others : (xs : List ℕ) → count a xs ≡ 0 → count b xs ≡ 0 → flat_map (pieces a b) (map (renumbered b) xs) ≡ xs
  pieces_of_others [] none_a none_b = refl
  pieces_of_others (x ∷ xs) none_a none_b =
      let not_a : x ≢ a = λ same. omega (arith, none_a, count-cons a x xs, subst (λ (i : ℕ). tie x i ≡ 1) same (tie-same x)) in
      let not_b : x ≢ b = λ same. omega (arith, none_b, count-cons b x xs, subst (λ (i : ℕ). tie x i ≡ 1) same (tie-same x)) in
      let back : behind_gap b (renumbered b x) ≡ x = gap-renumbered b x not_b in
      let other : renumbered b x ≢ a = λ same. not_a (sym back ∙ ap (behind_gap b) same ∙ gap_below b a less) in
      ap (λ (ys : List ℕ). ys ++ flat_map (pieces a b) (map (renumbered b) xs)) (pieces-one a b (renumbered b x) other ∙ ap (λ (y : ℕ). y ∷ []) back)
      ∙ ap (λ (ys : List ℕ). x ∷ ys) (pieces_of_others xs (omega (arith, none_a, count-cons a x xs)) (omega (arith, none_b, count-cons b x xs)))

  module _ (before behind : List ℕ) (once_a : count a (before ++ (a ∷ b ∷ behind)) ≡ 1) (once_b : count b (before ++ (a ∷ b ∷ behind)) ≡ 1) where
    -- the order after the join
    later : List ℕ
    later = map (renumbered b) before ++ (a ∷ map (renumbered b) behind)

    counts_a : count a before + count a behind ≡ 0
    counts_a = omega (arith, once_a, count-append a before (a ∷ b ∷ behind), count-cons a a (b ∷ behind), count-cons a b behind, tie-same a)

    counts_b : count b before + count b behind ≡ 0
    counts_b = omega (arith, once_b, count-append b before (a ∷ b ∷ behind), count-cons b a (b ∷ behind), count-cons b b behind, tie-same b)

    pieces_of_later : flat_map (pieces a b) later ≡ before ++ (a ∷ b ∷ behind)
    unfolding later
    pieces_of_later =
        flat_map-append (pieces a b) (map (renumbered b) before) (a ∷ map (renumbered b) behind)
        ∙ ap (λ (ys : List ℕ). ys ++ (pieces a b a ++ flat_map (pieces a b) (map (renumbered b) behind)))
        (pieces_of_others before (omega (arith, counts_a)) (omega (arith, counts_b)))
        ∙ ap (λ (ys : List ℕ). before ++ (ys ++ flat_map (pieces a b) (map (renumbered b) behind))) (pieces-both a b)
        ∙ ap (λ (ys : List ℕ). before ++ (a ∷ b ∷ ys)) (pieces_of_others behind (omega (arith, counts_a)) (omega (arith, counts_b)))

-- ---- both ways

-- an order with the two side by side is one of as many scenes and keeps the pairs
module _ (film : FilmData) (a b : ℕ) (order : List ℕ) (is : IsKeptOrder film order) (apart : All (IsApart a b) film.pairs) (beside : Beside film a b order) where
  is_order_beside : IsOrder (length film.casts) (beside.before ++ (a ∷ b ∷ beside.behind))
  is_order_beside = order_permuted (length film.casts) order (beside.before ++ (a ∷ b ∷ beside.behind)) is.is_order
      (permuted_by_counts order (beside.before ++ (a ∷ b ∷ beside.behind)) (λ i. sym (beside.counts i)))

  keeps_beside : Keeps film.pairs (beside.before ++ (a ∷ b ∷ beside.behind))
  keeps_beside = All-from_contains (KeepsPair (beside.before ++ (a ∷ b ∷ beside.behind))) film.pairs (λ pair there.
      let free : IsApart a b pair = All-contains (IsApart a b) film.pairs pair apart there in
      beside.stands pair.first pair.then free.0 free.1 free.2 free.3 (All-contains (KeepsPair order) film.pairs pair is.keeps there))

module _ (state : State) (a b : ℕ) (less : a < b) (within : b < length state.film.casts) (is_state : IsState state)
    (can : can_join_scenes state.film a b ≡ true) where
  abbrev after : State
  after = scenes_joined state a b

  size : length state.film.casts ≡ length after.film.casts + 1
  size = sym (length-remove state.film.casts b within)

  back : (order : List ℕ) → IsOrder (length after.film.casts) order → IsBackFrom state after 0 order
  back order is = join_back state a b less within is_state.film.day_count is_state.members (equal_casts state.film a b can)
      (apart_by_test state.film a b can) (length after.film.casts) size order is

  classes : length after.members ≡ length after.film.casts
  classes = omega (
    arith,
    length-set (remove state.members b) a (slice_index_or state.members a [] ++ slice_index_or state.members b []),
    length-remove state.members b (omega (arith, within, is_state.members)),
    size,
    is_state.members,
  )

  -- an order whose pieces these are
  forth_from : (order earlier later : List ℕ) → flat_map (pieces a b) later ≡ earlier → IsOrder (length state.film.casts) earlier
      → Keeps state.film.pairs earlier → pay_of state.film earlier ≤ pay_of state.film order
      → IsKeptOrder after.film later × (pay_of after.film later + 0 ≤ pay_of state.film order)
  forth_from order earlier later same is keeps pay = (
    record {
      is_order = order_of_pieces a b less (length after.film.casts) (omega (arith, within, size)) later
          (subst (λ (xs : List ℕ). IsOrder (length after.film.casts + 1) xs) (sym same) (subst (λ (m : ℕ). IsOrder m earlier) size is));
      keeps = (pair_kept a b less later state.film.pairs (apart_by_test state.film a b can)).0 (subst (Keeps state.film.pairs) (sym same) keeps);
    },
    omega (arith, pay, ap (pay_of state.film) same, pay_back state.film a b less within is_state.film.day_count (equal_casts state.film a b can) later),
  )

  forth_beside : (order : List ℕ) → IsKeptOrder state.film order → Beside state.film a b order
      → (later : List ℕ) × IsKeptOrder after.film later × (pay_of after.film later + 0 ≤ pay_of state.film order)
  forth_beside order is beside =
      let is_order : IsOrder (length state.film.casts) (beside.before ++ (a ∷ b ∷ beside.behind)) = is_order_beside state.film a b order is apart beside in
      let once_a : count a (beside.before ++ (a ∷ b ∷ beside.behind)) ≡ 1 = is_order.once a (omega (arith, less, within)) in
      let once_b : count b (beside.before ++ (a ∷ b ∷ beside.behind)) ≡ 1 = is_order.once b within in
      let found = forth_from order (beside.before ++ (a ∷ b ∷ beside.behind)) (later a b less beside.before beside.behind once_a once_b)
      (pieces_of_later a b less beside.before beside.behind once_a once_b) is_order (keeps_beside state.film a b order is apart beside) beside.pay in
      (later a b less beside.before beside.behind once_a once_b, found.0, found.1)
    where
      apart : All (IsApart a b) state.film.pairs
      apart = apart_by_test state.film a b can

  forth : (order : List ℕ) → IsKeptOrder state.film order
      → (later : List ℕ) × IsKeptOrder after.film later × (pay_of after.film later + 0 ≤ pay_of state.film order)
  forth order is = forth_beside order is (stand_beside state.film a b order (equal_casts state.film a b can) (λ same. omega (arith, less, same))
      (omega (arith, is.is_order.once a (omega (arith, less, within)))) (omega (arith, is.is_order.once b within)))

pub scenes_join_keeps : (state : State) (a b : ℕ) → a < b → b < length state.film.casts → IsState state → can_join_scenes state.film a b ≡ true
    → StepKeeps state (scenes_joined state a b)
scenes_join_keeps state a b less within is can = record {
  fell = 0;
  apart = omega arith;
  classes = classes state a b less within is can;
  back = back state a b less within is can;
  forth = forth state a b less within is can;
}
