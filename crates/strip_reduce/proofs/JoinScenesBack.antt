-- The way back from a join of two scenes: what it pays, which pairs it keeps, and whose members it has.
use Rattle.std.proofs.Common.{◌≡◌, ◌≢◌, ◌↔◌, ℕ, ◌+◌, ◌*◌, ◌<◌, Bool, cond, List, [], ◌∷◌, ◌++◌, length, map, sum_by, slice_index, slice_index_or, All, Contains, inl, inr, refl, sym, ap, ◌∙◌, subst, arith}
use Rattle.std.specs.List.{flat_map, remove}
use Rattle.std.proofs.lemmas.Bool.{cases_eq}
use Rattle.std.proofs.lemmas.List.{append-nil}
use Rattle.std.proofs.lemmas.List.Elements.{All-nil, All-cons, All-head, All-tail, All-contains, All-map}
use Rattle.std.proofs.lemmas.List.Sums.{sum_by-cons}
use Rattle.std.proofs.lemmas.Grind.{flat_map-append}
use Rattle.strip_mask.specs.Set.{has, behind_gap}
use Rattle.strip_model.proofs.Pairs.{All-from_map}
use Rattle.strip_model.specs.declared.pair.Pair.{Pair}
use Rattle.strip_model.specs.Film.{FilmData}
use Rattle.strip_model.specs.Order.{IsOrder, StandsBefore, KeepsPair, Keeps}
use Rattle.strip_model.specs.Pay.{works, day_pay, pay_of}
use Rattle.strip_model.proofs.Blocks.{All-from_contains, blocks-pay}
use Rattle.strip_model.proofs.Counts.{count, contains_counted, counted_contains}
use Rattle.strip_reduce.specs.State.{State, way_back}
use Rattle.strip_reduce.specs.Steps.{joined, summed, renumbered, renumbered_pair, scenes_joined}
use Rattle.strip_reduce.proofs.StepKeeps.{IsBackFrom}
use Rattle.strip_reduce.proofs.JoinScenesPieces.{pieces, pieces-both, pieces-one, place-other, count-pieces, pieces_are_order}
use Rattle.strip_reduce.proofs.Places.{gap_below, gap-renumbered, joined-elsewhere, joined-here, removed-at, renumbered-gap}

-- ---- pairs of other scenes

module _ (a b : ℕ) (less : a < b) (first second : ℕ) (first_a : first ≢ a) (first_b : first ≢ b) (second_b : second ≢ b) where
  same_count : (order : List ℕ) → count second (flat_map (pieces a b) order) ≡ count (renumbered b second) order
  same_count order = count-pieces a b less second order ∙ ap (λ (x : ℕ). count x order) (place-other a b second second_b)

  seen_behind : (order : List ℕ) → Contains (flat_map (pieces a b) order) second → Contains order (renumbered b second)
  seen_behind order there =
      contains_counted (renumbered b second) order (omega (arith, same_count order, counted_contains second (flat_map (pieces a b) order) there))

  kept_behind : (order : List ℕ) → Contains order (renumbered b second) → Contains (flat_map (pieces a b) order) second
  kept_behind order there =
      contains_counted second (flat_map (pieces a b) order) (omega (arith, same_count order, counted_contains (renumbered b second) order there))

  stands_later : (order : List ℕ) → StandsBefore first second (flat_map (pieces a b) order) → StandsBefore (renumbered b first) (renumbered b second) order
  stands_later [] stands = stands
  stands_later (x ∷ xs) stands = elim (cases_eq x a) [
    | inl both ↦ elim (subst (λ (ys : List ℕ). StandsBefore first second (ys ++ flat_map (pieces a b) xs)) (ap (pieces a b) both ∙ pieces-both a b) stands) [
      | inl (same, behind) ↦ absurd (first_a (sym same))
      | inr rest ↦ elim rest [
        | inl (same, behind) ↦ absurd (first_b (sym same))
        | inr later ↦ inr (stands_later xs later)
      ]
    ]
    | inr one ↦ elim (subst (λ (ys : List ℕ). StandsBefore first second (ys ++ flat_map (pieces a b) xs)) (pieces-one a b x one) stands) [
      | inl (same, behind) ↦ inl (sym (renumbered-gap b x) ∙ ap (renumbered b) same, seen_behind xs behind)
      | inr later ↦ inr (stands_later xs later)
    ]
  ]

  stands_earlier : (order : List ℕ) → StandsBefore (renumbered b first) (renumbered b second) order → StandsBefore first second (flat_map (pieces a b) order)
  stands_earlier [] stands = stands
  stands_earlier (x ∷ xs) (inr later) = behind (pieces a b x) (stands_earlier xs later)
    where
      behind : (ys : List ℕ) → StandsBefore first second (flat_map (pieces a b) xs) → StandsBefore first second (ys ++ flat_map (pieces a b) xs)
      behind [] stands = stands
      behind (y ∷ ys) stands = inr (behind ys stands)
  stands_earlier (x ∷ xs) (inl (same, there)) =
      let here : behind_gap b x ≡ first = ap (behind_gap b) same ∙ gap-renumbered b first first_b in
      let one : x ≢ a = λ both. first_a (sym here ∙ ap (behind_gap b) both ∙ gap_below b a less) in
      subst (λ (ys : List ℕ). StandsBefore first second (ys ++ flat_map (pieces a b) xs)) (sym (pieces-one a b x one)) (inl (here, kept_behind xs there))

-- neither scene stands in the pair
abbrev pub IsApart : ℕ → ℕ → Pair → Type 0
IsApart a b pair = (pair.first ≢ a) × (pair.first ≢ b) × (pair.then ≢ a) × (pair.then ≢ b)

module _ (a b : ℕ) (less : a < b) (order : List ℕ) where
  pub pair_kept : (pairs : List Pair) → All (IsApart a b) pairs
      → Keeps pairs (flat_map (pieces a b) order) ↔ Keeps (map (renumbered_pair b) pairs) order
  pair_kept pairs apart = (
    λ keeps. All-map (KeepsPair order) (renumbered_pair b) pairs (All-from_contains (λ pair. KeepsPair order (renumbered_pair b pair)) pairs (λ pair there.
        let free : IsApart a b pair = All-contains (IsApart a b) pairs pair apart there in
        stands_later a b less pair.first pair.then free.0 free.1 free.3 order (All-contains (KeepsPair (flat_map (pieces a b) order)) pairs pair keeps there))),
    λ keeps. All-from_contains (KeepsPair (flat_map (pieces a b) order)) pairs (λ pair there.
        let free : IsApart a b pair = All-contains (IsApart a b) pairs pair apart there in
        stands_earlier a b less pair.first pair.then free.0 free.1 free.3 order
        (All-contains (λ two. KeepsPair order (renumbered_pair b two)) pairs pair (All-from_map (KeepsPair order) (renumbered_pair b) pairs keeps) there)),
  )

-- ---- the members

-- lists for the scenes of the order, where each is that of its pieces
flat-pieces : (a b : ℕ) (earlier later : ℕ → List ℕ) (order : List ℕ) → All (λ x. flat_map earlier (pieces a b x) ≡ later x) order
    → flat_map earlier (flat_map (pieces a b) order) ≡ flat_map later order
flat-pieces a b earlier later [] each = refl
flat-pieces a b earlier later (x ∷ xs) each =
    flat_map-append earlier (pieces a b x) (flat_map (pieces a b) xs)
    ∙ ap (λ (ys : List ℕ). ys ++ flat_map earlier (flat_map (pieces a b) xs)) (All-head (λ y. flat_map earlier (pieces a b y) ≡ later y) x xs each)
    ∙ ap (λ (ys : List ℕ). later x ++ ys) (flat-pieces a b earlier later xs (All-tail (λ y. flat_map earlier (pieces a b y) ≡ later y) x xs each))

members_back : (members : List (List ℕ)) (a b : ℕ) → a < b → b < length members → (order : List ℕ)
    → way_back members (flat_map (pieces a b) order) ≡ way_back (joined members a b (slice_index_or members a [] ++ slice_index_or members b [])) order
members_back members a b less within order =
    flat-pieces a b of_scene after order (All-from_contains (λ x. flat_map of_scene (pieces a b x) ≡ after x) order (λ x there. each x))
  where
    of_scene : ℕ → List ℕ
    of_scene scene = slice_index_or members scene []

    after : ℕ → List ℕ
    after scene = slice_index_or (joined members a b (slice_index_or members a [] ++ slice_index_or members b [])) scene []

    each : (x : ℕ) → flat_map of_scene (pieces a b x) ≡ after x
    each x = elim (cases_eq x a) [
      | inl both ↦ ap (flat_map of_scene) (ap (pieces a b) both ∙ pieces-both a b) ∙ ap (λ (ys : List ℕ). of_scene a ++ ys) (append-nil (of_scene b))
          ∙ sym (joined-here members b within a (of_scene a ++ of_scene b) [] less) ∙ ap after (sym both)
      | inr one ↦ ap (flat_map of_scene) (pieces-one a b x one) ∙ append-nil (of_scene (behind_gap b x))
          ∙ sym (joined-elsewhere members b within a (of_scene a ++ of_scene b) x [] one)
    ]

-- ---- the pay

pay_once : (d after rate hold : ℕ) (t u : Bool) → d ≡ after → t ≡ u → d * cond t rate hold ≡ after * cond u rate hold
pay_once d after rate hold t u days work = rw (days, work) refl

pay_twice : (d e after rate hold : ℕ) (t v u : Bool) → after ≡ d + e → t ≡ u → v ≡ u
    → d * cond t rate hold + e * cond v rate hold ≡ after * cond u rate hold
pay_twice d e after rate hold t v u days first second = rw (days, first, second) (grind arith)

-- the film with the two scenes joined
abbrev pub film_joined : FilmData → ℕ → ℕ → FilmData
film_joined film a b = record film { casts = remove film.casts b; days = summed film.days a b; pairs = map (renumbered_pair b) film.pairs }

module _ (film : FilmData) (a b : ℕ) (less : a < b) (within : b < length film.casts) (long : length film.days ≡ length film.casts)
    (equal : slice_index film.casts a ≡ slice_index film.casts b) where
  work_at : (actor x : ℕ) → works film actor (behind_gap b x) ≡ works (film_joined film a b) actor x
  work_at actor x = ap (λ (cast : ℕ). has cast actor) (sym (removed-at film.casts b within x 0))

  work_first : (actor : ℕ) → works film actor a ≡ works (film_joined film a b) actor a
  work_first actor = ap (works film actor) (sym (gap_below b a less)) ∙ work_at actor a

  work_last : (actor : ℕ) → works film actor b ≡ works (film_joined film a b) actor a
  work_last actor = ap (λ (cast : ℕ). has cast actor) (sym equal) ∙ work_first actor

  works_there : (actor x : ℕ) → All (λ y. works film actor y ≡ works (film_joined film a b) actor x) (pieces a b x)
  works_there actor x = elim (cases_eq x a) [
    | inl both ↦ rw (both, pieces-both a b) (All-cons (λ y. works film actor y ≡ works (film_joined film a b) actor a) a (b ∷ []) (work_first actor)
        (All-cons (λ y. works film actor y ≡ works (film_joined film a b) actor a) b [] (work_last actor) (All-nil (λ y. works film actor y ≡ works (film_joined film a b) actor a))))
    | inr one ↦ rw (pieces-one a b x one) (All-cons (λ y. works film actor y ≡ works (film_joined film a b) actor x) (behind_gap b x) [] (work_at actor x)
        (All-nil (λ y. works film actor y ≡ works (film_joined film a b) actor x)))
  ]

  paid_there : (actor x : ℕ) → sum_by (day_pay film actor) (pieces a b x) ≡ day_pay (film_joined film a b) actor x
  paid_there actor x = elim (cases_eq x a) [
    | inl both ↦ rw (both, pieces-both a b) (sum_by-cons (day_pay film actor) a (b ∷ []) ∙ ap (λ (n : ℕ). day_pay film actor a + n) (alone b)
        ∙ pay_twice (slice_index film.days a) (slice_index film.days b) (slice_index (summed film.days a b) a) (slice_index film.rates actor) (slice_index film.holds actor)
        (works film actor a) (works film actor b) (works (film_joined film a b) actor a)
        (joined-here film.days b (omega (arith, within, long)) a (slice_index film.days a + slice_index film.days b) 0 less) (work_first actor) (work_last actor))
    | inr one ↦ rw (pieces-one a b x one) (alone (behind_gap b x)
        ∙ pay_once (slice_index film.days (behind_gap b x)) (slice_index (summed film.days a b) x) (slice_index film.rates actor) (slice_index film.holds actor)
        (works film actor (behind_gap b x)) (works (film_joined film a b) actor x)
        (sym (joined-elsewhere film.days b (omega (arith, within, long)) a (slice_index film.days a + slice_index film.days b) x 0 one)) (work_at actor x))
  ]
    where
      alone : (y : ℕ) → sum_by (day_pay film actor) (y ∷ []) ≡ day_pay film actor y
      alone y = omega (arith, sum_by-cons (day_pay film actor) y [])

  some_there : (x : ℕ) → pieces a b x ≢ []
  some_there x none = elim (cases_eq x a) [
    | inl both ↦ (let e : a ∷ b ∷ [] ≡ [] = sym (pieces-both a b) ∙ ap (pieces a b) (sym both) ∙ none in cc)
    | inr one ↦ (let e : behind_gap b x ∷ [] ≡ [] = sym (pieces-one a b x one) ∙ none in cc)
  ]

  pub pay_back : (order : List ℕ) → pay_of film (flat_map (pieces a b) order) ≡ pay_of (film_joined film a b) order
  pay_back order = blocks-pay film (film_joined film a b) (pieces a b) order refl (λ actor x lt there. (some_there x, works_there actor x, paid_there actor x))

-- ---- all of it

pub join_back : (state : State) (a b : ℕ) → a < b → b < length state.film.casts → length state.film.days ≡ length state.film.casts
    → length state.members ≡ length state.film.casts → slice_index state.film.casts a ≡ slice_index state.film.casts b → All (IsApart a b) state.film.pairs
    → (n : ℕ) → length state.film.casts ≡ n + 1 → (order : List ℕ) → IsOrder n order → IsBackFrom state (scenes_joined state a b) 0 order
join_back state a b less within long listed equal apart n size order is = record {
  earlier = flat_map (pieces a b) order;
  is_order = subst (λ (m : ℕ). IsOrder m (flat_map (pieces a b) order)) (sym size) (pieces_are_order a b less n (omega (arith, within, size)) order is);
  kept = pair_kept a b less order state.film.pairs apart;
  pay = omega (arith, pay_back state.film a b less within long equal order);
  members = members_back state.members a b less (omega (arith, within, listed)) order;
}
