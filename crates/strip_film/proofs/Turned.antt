-- The turns of a `for` over a cast.
use Rattle.std.proofs.Math.Bool.{or-false}
use Rattle.std.proofs.Common.{◌≡◌, ◌≢◌, Contains, ℕ, ◌+◌, ◌<◌, ◌≤◌, Bool, true, false, cond, eqb, ◌&&◌, ◌||◌, List, [], ◌∷◌, ◌++◌, length, set, slice_index, count_by, inl, inr, refl, sym, ap, ◌∙◌, subst, arith}
use Rattle.std.specs.List.{list_any}
use Rattle.std.proofs.lemmas.Bool.{cases_lt, eq-eqb, eqb-true, ne_eqb}
use Rattle.std.proofs.lemmas.Bool.Decides.{eqb_tells}
use Rattle.std.proofs.lemmas.List.{get_or-set_same, get_or-set_other}
use Rattle.std.proofs.lemmas.List.Folds.{list_any-append}
use Rattle.std.proofs.lemmas.List.Sums.{sum_by-append, sum_by-cons}
use Rattle.strip_mask.specs.Set.{IsSet, has, with, members}
use Rattle.strip_mask.specs.Sums.{sum_below}
use Rattle.strip_mask.proofs.ByMembers.{has-empty, has-past, has-with_same, has-with_other}
use Rattle.strip_mask.proofs.Sums.{sum_below-none, sum_below-point}
use Rattle.strip_mask.proofs.Members.{has_from_members, Contains-members}
use Rattle.strip_mask.proofs.Agree.{same_test}
use Rattle.strip_model.proofs.Lists.{any_from, any_is}
use Rattle.strip_model.proofs.Counts.{count, count-cons, tie-same, tie-other}
use Rattle.strip_mask.proofs.Sizes.{mark}
use Rattle.strip_film.proofs.Counts.{count_members, count-le}

-- a set's list has each of its numbers once
pub count_once : (a j : ℕ) → IsSet a → count j (members a) ≡ mark (has a j)
count_once a j small = count_members (λ y. eqb y j) a ∙ elim (cases_lt j 64) [
  | inl lt ↦ (let apart = sum_below-point 64 j (value a j) (λ _. 0) lt (λ i _ other. nothing i (λ same. other (sym same))) in
      let zeros : sum_below 64 (λ _. 0) ≡ 0 = sum_below-none 64 (λ _. 0) (λ _ _. refl) in
      omega (arith, apart, zeros, ap (λ (n : ℕ). cond {A = ℕ} (has a j) n 0) (tie-same j)))
  | inr ge ↦ sum_below-none 64 (value a j) (λ i lt. nothing i (omega (arith, lt, ge))) ∙ sym (ap mark (has-past a j small ge))
]
  where
    value : ℕ → ℕ → ℕ → ℕ
    value a j i = cond {A = ℕ} (has a i) (mark (eqb i j)) 0

    zero_of : (b : Bool) → cond {A = ℕ} b 0 0 ≡ 0
    zero_of true = refl
    zero_of false = refl

    nothing : (i : ℕ) → i ≢ j → value a j i ≡ 0
    nothing i other = ap (λ (n : ℕ). cond {A = ℕ} (has a i) n 0) (tie-other i j other) ∙ zero_of (has a i)

-- a value less at the turn's number: what is left to come is still in it
pub down_turn : (now start : List ℕ) (cast i x : ℕ) (rest left : List ℕ) → rest ≡ i ∷ left → i < length now → x + 1 ≡ slice_index now i
    → ((j : ℕ) → slice_index now j + mark (has cast j) ≡ slice_index start j + count j rest)
    → (j : ℕ) → slice_index (set now i x) j + mark (has cast j) ≡ slice_index start j + count j left
down_turn now start cast i x rest left step within less are j = elim (eqb_tells i j) [
  | inl same ↦ subst (λ (k : ℕ). slice_index (set now i x) k + mark (has cast k) ≡ slice_index start k + count k left) same.1
      (omega (arith, get_or-set_same now i x 0 within, less, are i, ap (count i) step, count-cons i i left, tie-same i))
  | inr other ↦ omega (arith, get_or-set_other now i j x 0 (λ same. other.1 (sym same)), are j, ap (count j) step, count-cons j i left, tie-other i j other.1)
]

-- a value more at the turn's number
pub up_turn : (now start : List ℕ) (cast i x : ℕ) (rest left : List ℕ) → rest ≡ i ∷ left → i < length now → x ≡ slice_index now i + 1
    → ((j : ℕ) → slice_index now j + count j rest ≡ slice_index start j + mark (has cast j))
    → (j : ℕ) → slice_index (set now i x) j + count j left ≡ slice_index start j + mark (has cast j)
up_turn now start cast i x rest left step within more are j = elim (eqb_tells i j) [
  | inl same ↦ subst (λ (k : ℕ). slice_index (set now i x) k + count k left ≡ slice_index start k + mark (has cast k)) same.1
      (omega (arith, get_or-set_same now i x 0 within, more, are i, ap (count i) step, count-cons i i left, tie-same i))
  | inr other ↦ omega (arith, get_or-set_other now i j x 0 (λ same. other.1 (sym same)), are j, ap (count j) step, count-cons j i left, tie-other i j other.1)
]

-- in his turn an actor has a scene in the one count, and room for it in the other
pub some_to_move : (now start : List ℕ) (cast i : ℕ) (rest left : List ℕ) → rest ≡ i ∷ left → has cast i ≡ true → 0 < slice_index start i
    → ((j : ℕ) → slice_index now j + mark (has cast j) ≡ slice_index start j + count j rest) → 0 < slice_index now i
some_to_move now start cast i rest left step member some are =
    let one : mark (has cast i) ≡ 1 = ap mark member in
    omega (arith, are i, one, some, ap (count i) step, count-cons i i left, tie-same i)

pub room_to_move : (now start : List ℕ) (cast i : ℕ) (rest left : List ℕ) → rest ≡ i ∷ left → has cast i ≡ true → slice_index start i ≤ 64
    → ((j : ℕ) → slice_index now j + count j rest ≡ slice_index start j + mark (has cast j)) → slice_index now i ≤ 64
room_to_move now start cast i rest left step member few are =
    let one : mark (has cast i) ≡ 1 = ap mark member in
    omega (arith, are i, one, few, ap (count i) step, count-cons i i left, tie-same i)

-- the set has those of the list that pass
abbrev pub AreFound : (ℕ → Bool) → List ℕ → ℕ → Type 0
AreFound test done found = (j : ℕ) → has found j ≡ (list_any (eqb j) done && test j)

pub found_none : (test : ℕ → Bool) → AreFound test [] 0
found_none test j = has-empty j

pushed : (test : ℕ → Bool) (done : List ℕ) (i j : ℕ) (b : Bool) → eqb j i ≡ b
    → (list_any (eqb j) (done ++ i ∷ []) && test j) ≡ ((list_any (eqb j) done || b) && test j)
pushed test done i j b is = ap (λ (c : Bool). c && test j) (list_any-append (eqb j) done (i ∷ []) ∙ ap (λ (c : Bool). list_any (eqb j) done || c) (or-false (eqb j i) ∙ is))

or_false : (a b : Bool) → (a && b) ≡ ((a || false) && b)
or_false true b = refl
or_false false b = refl

or_passing : (a b : Bool) → b ≡ true → true ≡ ((a || true) && b)
or_passing true b is = sym is
or_passing false b is = sym is

or_failing : (a b : Bool) → b ≡ false → (a && b) ≡ ((a || true) && b)
or_failing true b is = refl
or_failing false b is = sym is

pub found_one : (test : ℕ → Bool) (done : List ℕ) (found i : ℕ) → test i ≡ true
    → AreFound test done found → AreFound test (done ++ i ∷ []) (with found i)
found_one test done found i passes are j = elim (eqb_tells i j) [
  | inl same ↦ subst (λ (k : ℕ). has (with found i) k ≡ (list_any (eqb k) (done ++ i ∷ []) && test k)) same.1
      (has-with_same found i ∙ or_passing (list_any (eqb i) done) (test i) passes ∙ sym (pushed test done i i true (eq-eqb i i refl)))
  | inr other ↦ has-with_other found i j other.1 ∙ are j ∙ or_false (list_any (eqb j) done) (test j)
      ∙ sym (pushed test done i j false (ne_eqb j i (λ same. other.1 (sym same))))
]

pub found_past : (test : ℕ → Bool) (done : List ℕ) (found i : ℕ) → test i ≡ false
    → AreFound test done found → AreFound test (done ++ i ∷ []) found
found_past test done found i fails are j = elim (eqb_tells i j) [
  | inl same ↦ subst (λ (k : ℕ). has found k ≡ (list_any (eqb k) (done ++ i ∷ []) && test k)) same.1
      (are i ∙ or_failing (list_any (eqb i) done) (test i) fails ∙ sym (pushed test done i i true (eq-eqb i i refl)))
  | inr other ↦ are j ∙ or_false (list_any (eqb j) done) (test j)
      ∙ sym (pushed test done i j false (ne_eqb j i (λ same. other.1 (sym same))))
]

-- at the end they are those of the set that pass
pub found_all : (test : ℕ → Bool) (a found : ℕ) (done : List ℕ) → IsSet a → done ≡ members a
    → AreFound test done found → (j : ℕ) → has found j ≡ (has a j && test j)
found_all test a found done small all are j =
    are j ∙ ap (λ (xs : List ℕ). list_any (eqb j) xs && test j) all ∙ ap (λ (b : Bool). b && test j) (same_test (list_any (eqb j) (members a)) (has a j)
    (λ any. (let there = any_is (eqb j) (members a) any in has_from_members a j (subst (λ (k : ℕ). Contains (members a) k) (sym (eqb-true j there.0 there.2)) there.1)))
    (λ member. any_from (eqb j) (members a) j (Contains-members a j small member) (eq-eqb j j refl)))

-- ---- counting over the members of a set

pub count-push : (p : ℕ → Bool) (xs : List ℕ) (x : ℕ) → count_by p (xs ++ x ∷ []) ≡ count_by p xs + mark (p x)
count-push p xs x = sum_by-append (λ i. mark (p i)) xs (x ∷ []) ∙ omega (arith, sum_by-cons (λ i. mark (p i)) x [])

-- the count so far with the turn's mark is at most 64
pub turn_count : (p : ℕ → Bool) (a i : ℕ) (done rest left : List ℕ) → done ++ rest ≡ members a → rest ≡ i ∷ left
    → count_by p done + mark (p i) ≤ 64
turn_count p a i done rest left all here =
    let whole : count_by p (members a) ≡ count_by p done + count_by p (i ∷ left)
    = ap (count_by p) (sym all ∙ ap (λ (xs : List ℕ). done ++ xs) here) ∙ sum_by-append (λ j. mark (p j)) done (i ∷ left) in
    omega (arith, whole, sum_by-cons (λ j. mark (p j)) i left, count-le p a)
