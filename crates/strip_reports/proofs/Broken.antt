-- An order breaks exactly the pairs that it doesn't keep.
use Rattle.std.proofs.Common.{◌≡◌, ◌≢◌, ◌↔◌, ℕ, ◌-◌, ◌<◌, ◌≤◌, Bool, true, false, IsTrue, eqb, eq-eqb, eqb-true, List, [], ◌∷◌, All, Contains, length, get_or, take, drop, inl, inr, refl, sym, ap, ◌∙◌, subst, arith}
use Rattle.std.specs.List.{list_any}
use Rattle.std.proofs.lemmas.Bool.{cases_Bool, ne_eqb}
use Rattle.std.proofs.lemmas.Bool.Decides.{eqb_tells}
use Rattle.std.proofs.lemmas.List.{take_rest}
use Rattle.std.proofs.lemmas.List.Elements.{All-weaker}
use Rattle.std.proofs.lemmas.List.Folds.{list_any_none}
use Rattle.strip_mask.proofs.Lists.{contains_cases, contains_none, count, count_here, none_counted}
use Rattle.strip_model.specs.declared.pair.Pair.{Pair}
use Rattle.strip_model.specs.Order.{IsOrder, KeepsPair, StandsBefore}
use Rattle.strip_model.specs.Pairs.{IsKnownPair}
use Rattle.strip_model.specs.Pay.{from_first}
use Rattle.strip_model.proofs.Ahead.{stands_second, once_behind, once_each, once-tail}
use Rattle.strip_model.proofs.Counts.{contains_counted}
use Rattle.strip_model.proofs.Fits.{never_both}
use Rattle.strip_model.proofs.Lists.{any_from, any_is, same_test}
use Rattle.strip_model.proofs.Spans.{All-from_first, from_first-drop_yes}
use Rattle.strip_reports.specs.Board.{breaks}

-- the first number stands behind the other
abbrev has_behind : ℕ → ℕ → List ℕ → Bool
has_behind first then xs = list_any (λ x. eqb x first) (from_first (λ x. eqb x then) xs)

none_behind : (first then : ℕ) (xs : List ℕ) → count first xs ≡ 0 → has_behind first then xs ≡ false
none_behind first then xs none =
    let absent : All (λ x. eqb x first ≡ false) xs = All-weaker (λ x. x ≢ first) (λ x. eqb x first ≡ false) (λ x. ne_eqb x first) xs (none_counted first xs none) in
    list_any_none (λ x. eqb x first) (from_first (λ x. eqb x then) xs) (All-from_first (λ x. eqb x then) (λ x. eqb x first ≡ false) xs absent)

-- in a list that has no number twice, the first number doesn't stand on both sides of the other
kept : (first then : ℕ) (xs : List ℕ) → ((i : ℕ) → count i xs ≤ 1) → StandsBefore first then xs → has_behind first then xs ≡ false
kept first then [] once stands = absurd stands
kept first then (x ∷ xs) once stands = elim (eqb_tells x then) [
  | inl same ↦ absurd (once_behind x then xs once same.1 (elim stands [
    | inl here ↦ here.1
    | inr later ↦ stands_second first then xs later
  ]))
  | inr other ↦ rw other.0 (elim stands [
    | inl here ↦ none_behind first then xs (subst (λ (i : ℕ). count i xs ≡ 0) here.0 (omega (arith, once x, count_here x xs)))
    | inr later ↦ kept first then xs (once-tail x xs once) later
  ])
]

is_itself : (x : ℕ) → eqb x x ≡ true
is_itself x = eq-eqb x x refl

-- and stands before it if not behind it
stands : (first then : ℕ) (xs : List ℕ) → Contains xs first → Contains xs then → has_behind first then xs ≡ false → StandsBefore first then xs
stands first then [] there behind none = absurd (contains_none first there)
stands first then (x ∷ xs) there behind none = elim (eqb_tells x then) [
  | inl same ↦ absurd (never_both (list_any (λ y. eqb y first) (x ∷ xs)) (any_from (λ y. eqb y first) (x ∷ xs) first there (is_itself first)) (rw same.0 at none))
  | inr other ↦ elim (contains_cases x xs then behind) [
    | inl same ↦ absurd (other.1 same)
    | inr later ↦ elim (contains_cases x xs first there) [
      | inl here ↦ inl (here, later)
      | inr further ↦ inr (stands first then xs further later (rw other.0 at none))
    ]
  ]
]

pub broken : (n : ℕ) (order : List ℕ) (pair : Pair) → IsOrder n order → IsKnownPair n pair → (breaks order pair ≡ true) ↔ (¬ KeepsPair order pair)
broken n order pair is known = (
  λ broken keeps. never_both (breaks order pair) broken (kept pair.first pair.then order (once_each n order is) keeps),
  λ not_kept. elim (cases_Bool (breaks order pair)) [
    | inl yes_broken ↦ yes_broken
    | inr none ↦ absurd (not_kept (stands pair.first pair.then order (is_there pair.first known.0) (is_there pair.then known.1) none))
  ],
)
  where
    is_there : (scene : ℕ) → scene < n → Contains order scene
    is_there scene lt = contains_counted scene order (omega (arith, is.once scene lt))

-- ---- as the code has it

-- the other scene is the first that remains, and a test tells whether the pair's first scene remains
pub told_breaks : (order : List ℕ) (pair : Pair) (place : ℕ) (told : Bool) → place < length order → get_or order place 0 ≡ pair.then
    → from_first (λ scene. eqb scene pair.then) order ≡ from_first (λ scene. eqb scene pair.then) (drop place order)
    → IsTrue told ↔ Contains (take (length order - place) (drop place order)) pair.first → told ≡ breaks order pair
told_breaks order pair place told lt here passed tells =
    let is_first : ℕ → Bool = λ scene. eqb scene pair.first in
    let rest : take (length order - place) (drop place order) ≡ drop place order = take_rest order place in
    same_test told (list_any is_first (drop place order))
    (λ yes_told. any_from is_first (drop place order) pair.first (subst (λ (list : List ℕ). Contains list pair.first) rest (tells.0 yes_told)) (is_itself pair.first))
    (λ some. tells.1 (subst (λ (list : List ℕ). Contains list pair.first) (sym rest) (let found = any_is is_first (drop place order) some in
    subst (Contains (drop place order)) (eqb-true found.0 pair.first found.2) found.1)))
    ∙ ap (list_any is_first) (sym (passed ∙ from_first-drop_yes (λ scene. eqb scene pair.then) order place lt (eq-eqb (get_or order place 0) pair.then here)))
