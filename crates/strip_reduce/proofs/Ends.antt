-- Of an order and its reverse the same one, by their first and last numbers.
use Rattle.std.proofs.Common.{◌≡◌, ◌≢◌, ℕ, suc, ◌-◌, ◌<◌, ltb, cond, List, [], ◌∷◌, length, reverse, slice_index, Contains, inl, inr, refl, sym, ap, ◌∙◌, subst, arith}
use Rattle.std.proofs.lemmas.Bool.{cases_lt, cond-true, cond-false, lt-ltb, le-ltb}
use Rattle.std.proofs.lemmas.List.{get_or-reverse, length-reverse, reverse-reverse}
use Rattle.std.proofs.lemmas.List.Elements.{All-head, Contains-get_or}
use Rattle.strip_model.specs.Order.{IsOrder}
use Rattle.strip_model.proofs.Counts.{count-cons, counted_contains, tie-same}
use Rattle.strip_reduce.specs.Oriented.{oriented}

-- each number stands once in an order, so that the ends of one of several scenes differ
ends_differ : (n first : ℕ) (later : List ℕ) → IsOrder n (first ∷ later) → 0 < length later
    → slice_index (first ∷ later) 0 ≢ slice_index (first ∷ later) (length (first ∷ later) - 1)
ends_differ n first later is some same =
    let place : length (first ∷ later) - 1 ≡ suc (length later - 1) = omega (arith, some) in
    let last : first ≡ slice_index later (length later - 1) = same ∙ ap (slice_index (first ∷ later)) place in
    let there : Contains later first = subst (Contains later) (sym last) (Contains-get_or later (length later - 1) 0 (omega (arith, some))) in
    omega (arith, counted_contains first later there, is.once first (All-head (λ y. y < n) first later is.known), count-cons first first later, tie-same first)

-- which of two lists, by which of two numbers that differ is the lesser
by_ends : (first last : ℕ) (there back : List ℕ) → first ≢ last → cond (ltb first last) there back ≡ cond (ltb last first) back there
by_ends first last there back differ = elim (cases_lt first last) [
  | inl less ↦ cond-true (ltb first last) there back (lt-ltb first last less) ∙ sym (cond-false (ltb last first) back there (le-ltb last first (omega (arith, less))))
  | inr most ↦ cond-false (ltb first last) there back (le-ltb first last most)
      ∙ sym (cond-true (ltb last first) back there (lt-ltb last first (omega (arith, most, differ))))
]

first_reversed : (order : List ℕ) → 0 < length order → slice_index (reverse order) 0 ≡ slice_index order (length order - 1)
first_reversed order some =
    let place : length order - 1 - 0 ≡ length order - 1 = omega arith in
    get_or-reverse order 0 0 some ∙ ap (slice_index order) place

last_reversed : (order : List ℕ) → 0 < length order → slice_index (reverse order) (length (reverse order) - 1) ≡ slice_index order 0
last_reversed order some =
    let last : length (reverse order) - 1 ≡ length order - 1 = omega (arith, length-reverse order) in
    let none : length order - 1 - (length order - 1) ≡ 0 = omega arith in
    ap (slice_index (reverse order)) last ∙ get_or-reverse order (length order - 1) 0 (omega (arith, some)) ∙ ap (slice_index order) none

reverse_by_ends : (order : List ℕ) → 0 < length order → slice_index order 0 ≢ slice_index order (length order - 1) → oriented (reverse order) ≡ oriented order
reverse_by_ends order some differ =
    rw (first_reversed order some, last_reversed order some, reverse-reverse order)
    (by_ends (slice_index order 0) (slice_index order (length order - 1)) order (reverse order) differ)

-- of an order and its reverse always the same one
pub oriented-reverse : (n : ℕ) (order : List ℕ) → IsOrder n order → oriented (reverse order) ≡ oriented order
oriented-reverse n [] is = refl
oriented-reverse n (scene ∷ []) is = refl
oriented-reverse n (scene ∷ next ∷ later) is =
    reverse_by_ends (scene ∷ next ∷ later) (omega arith) (ends_differ n scene (next ∷ later) is (omega arith))
