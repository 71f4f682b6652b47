-- An order of equal cost or less in which two scenes of equal cast stand side by side.
use Rattle.std.proofs.Common.{◌≡◌, ◌≢◌, ℕ, ◌<◌, ◌≤◌, List, [], ◌∷◌, ◌++◌, slice_index, inl, inr, refl, sym, ap, ◌∙◌, subst, arith, append_assoc}
use Rattle.std.proofs.lemmas.Bool.{cases_lt}
use Rattle.strip_model.specs.Film.{FilmData}
use Rattle.strip_model.specs.Order.{StandsBefore}
use Rattle.strip_model.specs.Pay.{pay_of}
use Rattle.strip_model.proofs.Counts.{count, tie-other, count-cons, count-append, SplitsAt, split_at, contains_counted, counted_contains}
use Rattle.strip_model.proofs.Moves.{stand_together, swapped_together}

-- ---- a number between that stands in no pair

module _ (first second x : ℕ) (first_x : first ≢ x) (second_x : second ≢ x) where
  count-without : (xs ys : List ℕ) → count second (xs ++ (x ∷ ys)) ≡ count second (xs ++ ys)
  count-without xs ys = omega (arith, count-append second xs (x ∷ ys), count-append second xs ys, count-cons second x ys, tie-other x second (λ same. second_x (sym same)))

  stands_without : (xs ys : List ℕ) → StandsBefore first second (xs ++ (x ∷ ys)) → StandsBefore first second (xs ++ ys)
  stands_without [] ys (inl (same, behind)) = absurd (first_x (sym same))
  stands_without [] ys (inr later) = later
  stands_without (y ∷ xs) ys (inl (same, behind)) =
      inl (same, contains_counted second (xs ++ ys) (omega (arith, count-without xs ys, counted_contains second (xs ++ (x ∷ ys)) behind)))
  stands_without (y ∷ xs) ys (inr later) = inr (stands_without xs ys later)

  stands_with : (xs ys : List ℕ) → StandsBefore first second (xs ++ ys) → StandsBefore first second (xs ++ (x ∷ ys))
  stands_with [] ys stands = inr stands
  stands_with (y ∷ xs) ys (inl (same, behind)) =
      inl (same, contains_counted second (xs ++ (x ∷ ys)) (omega (arith, count-without xs ys, counted_contains second (xs ++ ys) behind)))
  stands_with (y ∷ xs) ys (inr later) = inr (stands_with xs ys later)

-- ---- two numbers apart, and side by side

-- an order with the two side by side, which has the same numbers, keeps the pairs of other scenes and costs no more
pub record Beside (film : FilmData) (a b : ℕ) (order : List ℕ) : Type 0 where
  pub before : List ℕ
  pub behind : List ℕ
  pub counts : (i : ℕ) → count i (before ++ (a ∷ b ∷ behind)) ≡ count i order
  pub stands : (first second : ℕ) → first ≢ a → first ≢ b → second ≢ a → second ≢ b → StandsBefore first second order
      → StandsBefore first second (before ++ (a ∷ b ∷ behind))
  pub pay : pay_of film (before ++ (a ∷ b ∷ behind)) ≤ pay_of film order

module _ (film : FilmData) (a b : ℕ) where
  -- the numbers besides the two stay in their order
  module _ (before between behind front rest : List ℕ) (same : before ++ (between ++ behind) ≡ front ++ rest) where
    counts_besides : (i : ℕ) → count i (front ++ (a ∷ b ∷ rest)) ≡ count i (before ++ (a ∷ (between ++ (b ∷ behind))))
    counts_besides i = omega (
      arith,
      count-append i front (a ∷ b ∷ rest),
      count-cons i a (b ∷ rest),
      count-cons i b rest,
      count-append i front rest,
      ap (count i) same,
      count-append i before (between ++ behind),
      count-append i between behind,
      count-append i before (a ∷ (between ++ (b ∷ behind))),
      count-cons i a (between ++ (b ∷ behind)),
      count-append i between (b ∷ behind),
      count-cons i b behind,
    )

    stands_besides : (first second : ℕ) → first ≢ a → first ≢ b → second ≢ a → second ≢ b
        → StandsBefore first second (before ++ (a ∷ (between ++ (b ∷ behind)))) → StandsBefore first second (front ++ (a ∷ b ∷ rest))
    stands_besides first second first_a first_b second_a second_b stands =
        let one : StandsBefore first second (before ++ (between ++ (b ∷ behind))) = stands_without first second a first_a second_a before (between ++ (b ∷ behind)) stands in
        let regrouped : StandsBefore first second ((before ++ between) ++ (b ∷ behind)) = subst (StandsBefore first second) (sym (append_assoc before between (b ∷ behind))) one in
        let none : StandsBefore first second ((before ++ between) ++ behind) = stands_without first second b first_b second_b (before ++ between) behind regrouped in
        let moved : StandsBefore first second (front ++ rest) = subst (StandsBefore first second) (append_assoc before between behind ∙ same) none in
        stands_with first second a first_a second_a front (b ∷ rest) (stands_with first second b first_b second_b front rest moved)

    beside_by : pay_of film (front ++ (a ∷ b ∷ rest)) ≤ pay_of film (before ++ (a ∷ (between ++ (b ∷ behind)))) → Beside film a b (before ++ (a ∷ (between ++ (b ∷ behind))))
    beside_by pay = record { before = front; behind = rest; counts = counts_besides; stands = stands_besides; pay = pay }

  -- the first of the two stands before the other
  beside_in_order : slice_index film.casts a ≡ slice_index film.casts b → (before between behind : List ℕ) → Beside film a b (before ++ (a ∷ (between ++ (b ∷ behind))))
  beside_in_order equal before between behind = elim (stand_together film a b equal before between behind) [
    | inl early ↦ beside_by before between behind before (between ++ behind) refl early
    | inr late ↦ beside_by before between behind (before ++ between) behind (sym (append_assoc before between behind))
        (subst (λ (xs : List ℕ). pay_of film xs ≤ pay_of film (before ++ (a ∷ (between ++ (b ∷ behind))))) (sym (append_assoc before between (a ∷ b ∷ behind))) late)
  ]

-- side by side, the two may be turned
turned_beside : (film : FilmData) (a b : ℕ) (order : List ℕ) → slice_index film.casts a ≡ slice_index film.casts b → Beside film b a order → Beside film a b order
turned_beside film a b order equal beside = record {
  before = beside.before;
  behind = beside.behind;
  counts = λ i. swapped i ∙ beside.counts i;
  stands = λ first second first_a first_b second_a second_b stands.
      stands_with first second a first_a second_a beside.before (b ∷ beside.behind)
      (stands_with first second b first_b second_b beside.before beside.behind
      (stands_without first second a first_a second_a beside.before beside.behind
      (stands_without first second b first_b second_b beside.before (a ∷ beside.behind) (beside.stands first second first_b first_a second_b second_a stands))));
  pay = omega (arith, swapped_together film a b equal beside.before beside.behind, beside.pay);
}
  where
    swapped : (i : ℕ) → count i (beside.before ++ (a ∷ b ∷ beside.behind)) ≡ count i (beside.before ++ (b ∷ a ∷ beside.behind))
    swapped i = omega (
      arith,
      count-append i beside.before (a ∷ b ∷ beside.behind),
      count-cons i a (b ∷ beside.behind),
      count-cons i b beside.behind,
      count-append i beside.before (b ∷ a ∷ beside.behind),
      count-cons i b (a ∷ beside.behind),
      count-cons i a beside.behind,
    )

-- both stand somewhere in the order
module _ (film : FilmData) (a b : ℕ) (order : List ℕ) (equal : slice_index film.casts a ≡ slice_index film.casts b) (split : SplitsAt a order) where
  b_behind : SplitsAt b split.after → Beside film a b order
  b_behind next = subst (Beside film a b) (sym parts) (beside_in_order film a b equal split.before next.before next.after)
    where
      parts : order ≡ split.before ++ (a ∷ (next.before ++ (b ∷ next.after)))
      parts = split.parts ∙ ap (λ (xs : List ℕ). split.before ++ (a ∷ xs)) next.parts

  b_before : SplitsAt b split.before → Beside film a b order
  b_before next = turned_beside film a b order equal (subst (Beside film b a) (sym parts) (beside_in_order film b a (sym equal) next.before next.after split.after))
    where
      parts : order ≡ next.before ++ (b ∷ (next.after ++ (a ∷ split.after)))
      parts = split.parts ∙ ap (λ (xs : List ℕ). xs ++ (a ∷ split.after)) next.parts ∙ append_assoc next.before (b ∷ next.after) (a ∷ split.after)

  beside_split : a ≢ b → 0 < count b order → Beside film a b order
  beside_split other some =
      let parts : count b order ≡ count b (split.before ++ (a ∷ split.after)) = ap (count b) split.parts in
      elim (cases_lt 0 (count b split.after)) [
        | inl later ↦ b_behind (split_at b split.after later)
        | inr none ↦ b_before (split_at b split.before
            (omega (arith, none, some, parts, count-append b split.before (a ∷ split.after), count-cons b a split.after, tie-other a b other)))
      ]

pub stand_beside : (film : FilmData) (a b : ℕ) (order : List ℕ) → slice_index film.casts a ≡ slice_index film.casts b → a ≢ b
    → 0 < count a order → 0 < count b order → Beside film a b order
stand_beside film a b order equal other some_a some_b = beside_split film a b order equal (split_at a order some_a) other some_b
