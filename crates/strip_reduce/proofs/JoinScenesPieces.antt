-- An order of the scenes after a join, with the two scenes in place of the one that they became.
use Rattle.std.proofs.Common.{◌≡◌, ◌≢◌, ℕ, ◌+◌, ◌<◌, ◌≤◌, cond, eqb, List, [], ◌∷◌, All, inl, inr, refl, sym, ap, ◌∙◌, arith}
use Rattle.std.specs.List.{flat_map}
use Rattle.std.proofs.lemmas.Bool.{cases_lt, cases_eq, eq-eqb, ne_eqb}
use Rattle.std.proofs.lemmas.List.Elements.{All-nil, All-cons, All-append, All-head, All-tail}
use Rattle.strip_mask.specs.Set.{behind_gap}
use Rattle.strip_model.specs.Order.{IsOrder}
use Rattle.strip_model.proofs.Blocks.{All-from_contains}
use Rattle.strip_model.proofs.Counts.{count, tie, tie-same, tie-other, count-cons, count-append, count-none, counted_contains}
use Rattle.strip_reduce.specs.Steps.{renumbered}
use Rattle.strip_reduce.proofs.Places.{gap_below, gap_other, gap_past, gap_within, gap-renumbered, renumbered_below, renumbered_within, renumbered-gap}

-- ---- the two scenes in place of the one

-- the scenes that stand for the scene at this place
abbrev pub pieces : ℕ → ℕ → ℕ → List ℕ
pieces a b place = cond (eqb place a) (a ∷ b ∷ []) (behind_gap b place ∷ [])

pub pieces-both : (a b : ℕ) → pieces a b a ≡ a ∷ b ∷ []
pieces-both a b = rw (eq-eqb a a refl) refl

pub pieces-one : (a b place : ℕ) → place ≢ a → pieces a b place ≡ behind_gap b place ∷ []
pieces-one a b place other = rw (ne_eqb place a other) refl

-- the place of the scene's piece
abbrev pub place_of : ℕ → ℕ → ℕ → ℕ
place_of a b scene = cond (eqb scene b) a (renumbered b scene)

place-last : (a b : ℕ) → place_of a b b ≡ a
place-last a b = rw (eq-eqb b b refl) refl

pub place-other : (a b scene : ℕ) → scene ≢ b → place_of a b scene ≡ renumbered b scene
place-other a b scene other = rw (ne_eqb scene b other) refl

place-gap : (a b place : ℕ) → place_of a b (behind_gap b place) ≡ place
place-gap a b place = place-other a b (behind_gap b place) (gap_other b place) ∙ renumbered-gap b place

module _ (a b : ℕ) (less : a < b) where
  place-first : place_of a b a ≡ a
  place-first = place-other a b a (λ same. omega (arith, less, same)) ∙ renumbered_below b a (omega (arith, less))

  count-both : (scene : ℕ) → count scene (a ∷ b ∷ []) ≡ tie a (place_of a b scene)
  count-both scene = elim (cases_eq scene b) [
    | inl last ↦ rw (last, place-last a b) (omega (arith, count-cons b a (b ∷ []), count-cons b b [], tie-same a, tie-same b, tie-other a b (λ same. omega (arith, less, same))))
    | inr other ↦ elim (cases_eq scene a) [
      | inl first ↦ rw (first, place-first) (omega (arith, count-cons a a (b ∷ []), count-cons a b [], tie-same a, tie-other b a (λ same. omega (arith, less, same))))
      | inr neither ↦ (let apart : a ≢ place_of a b scene = λ same. neither (sym (gap-renumbered b scene other)
          ∙ ap (behind_gap b) (sym (place-other a b scene other) ∙ sym same) ∙ gap_below b a less) in
          omega (
            arith,
            count-cons scene a (b ∷ []),
            count-cons scene b [],
            tie-other a scene (λ same. neither (sym same)),
            tie-other b scene (λ same. other (sym same)),
            tie-other a (place_of a b scene) apart,
          ))
    ]
  ]

  count-one : (place scene : ℕ) → place ≢ a → count scene (behind_gap b place ∷ []) ≡ tie place (place_of a b scene)
  count-one place scene besides = elim (cases_eq (behind_gap b place) scene) [
    | inl here ↦ (let at : place_of a b scene ≡ place = ap (place_of a b) (sym here) ∙ place-gap a b place in
        rw (at, ← here) (omega (arith, count-cons (behind_gap b place) (behind_gap b place) [], tie-same (behind_gap b place), tie-same place)))
    | inr elsewhere ↦ omega (
      arith,
      count-cons scene (behind_gap b place) [],
      tie-other (behind_gap b place) scene elsewhere,
      tie-other place (place_of a b scene) (λ same. elim (cases_eq scene b) [
        | inl last ↦ besides (same ∙ ap (place_of a b) last ∙ place-last a b)
        | inr other ↦ elsewhere (ap (behind_gap b) (same ∙ place-other a b scene other) ∙ gap-renumbered b scene other)
      ]),
    )
  ]

  count-piece : (place scene : ℕ) → count scene (pieces a b place) ≡ tie place (place_of a b scene)
  count-piece place scene = elim (cases_eq place a) [
    | inl both ↦ rw (both, pieces-both a b) (count-both scene)
    | inr one ↦ rw (pieces-one a b place one) (count-one place scene one)
  ]

  -- a scene stands among the pieces as often as its place in the order
  pub count-pieces : (scene : ℕ) (order : List ℕ) → count scene (flat_map (pieces a b) order) ≡ count (place_of a b scene) order
  count-pieces scene [] = refl
  count-pieces scene (x ∷ xs) = omega (
    arith,
    count-append scene (pieces a b x) (flat_map (pieces a b) xs),
    count-piece x scene,
    count-pieces scene xs,
    count-cons (place_of a b scene) x xs,
  )

  module _ (n : ℕ) (within : b ≤ n) where
    place_lt : (scene : ℕ) → scene < n + 1 → place_of a b scene < n
    place_lt scene lt = elim (cases_eq scene b) [
      | inl last ↦ rw (last, place-last a b) (omega (arith, less, within))
      | inr other ↦ rw (place-other a b scene other) (renumbered_within n b scene within other lt)
    ]

    piece_known : (place : ℕ) → place < n → All (λ x. x < n + 1) (pieces a b place)
    piece_known place lt = elim (cases_eq place a) [
      | inl both ↦ rw (both, pieces-both a b) (All-cons (λ x. x < n + 1) a (b ∷ []) (omega (arith, less, within))
          (All-cons (λ x. x < n + 1) b [] (omega (arith, within)) (All-nil (λ x. x < n + 1))))
      | inr one ↦ rw (pieces-one a b place one) (All-cons (λ x. x < n + 1) (behind_gap b place) [] (gap_within n b place lt) (All-nil (λ x. x < n + 1)))
    ]

    pieces_known : (order : List ℕ) → All (λ x. x < n) order → All (λ x. x < n + 1) (flat_map (pieces a b) order)
    pieces_known [] known = All-nil (λ x. x < n + 1)
    pieces_known (x ∷ xs) known = All-append (λ x. x < n + 1) (pieces a b x) (flat_map (pieces a b) xs)
        (piece_known x (All-head (λ x. x < n) x xs known)) (pieces_known xs (All-tail (λ x. x < n) x xs known))

    pub pieces_are_order : (order : List ℕ) → IsOrder n order → IsOrder (n + 1) (flat_map (pieces a b) order)
    pieces_are_order order is = record {
      known = pieces_known order is.known;
      once = λ scene lt. count-pieces scene order ∙ is.once (place_of a b scene) (place_lt scene lt);
    }

    -- and the other way round
    count_of_pieces : (place : ℕ) (order : List ℕ) → count place order ≡ count (behind_gap b place) (flat_map (pieces a b) order)
    count_of_pieces place order = ap (λ (x : ℕ). count x order) (sym (place-gap a b place)) ∙ sym (count-pieces (behind_gap b place) order)

    pub order_of_pieces : (order : List ℕ) → IsOrder (n + 1) (flat_map (pieces a b) order) → IsOrder n order
    order_of_pieces order is = record {
      known = All-from_contains (λ x. x < n) order (λ x there. elim (cases_lt x n) [
        | inl lt ↦ lt
        | inr past ↦ absurd (omega (
          arith,
          counted_contains x order there,
          count_of_pieces x order,
          count-none (n + 1) (behind_gap b x) (flat_map (pieces a b) order) is.known (gap_past n b x within past),
        ))
      ]);
      once = λ place lt. count_of_pieces place order ∙ is.once (behind_gap b place) (gap_within n b place lt);
    }
