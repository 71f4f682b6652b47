-- The days of a list's scenes that pass a test, and those that the last one of a group waits.
use Rattle.std.proofs.Common.{◌≡◌, ℕ, ◌+◌, ◌*◌, Bool, true, false, not, ◌&&◌, cond, eqb, List, [], ◌∷◌, filter, slice_index, sum_by, refl, sym, ap, ◌∙◌, inl, inr, arith}
use Rattle.std.proofs.lemmas.Bool.{cases_eq, false≢true, eqb-true, eq-eqb, and_from, false_from_ne_true, cases_Bool}
use Rattle.std.proofs.lemmas.List.Sums.{sum_by-cons}
use Rattle.strip_mask.specs.Set.{has, meet, with, without}
use Rattle.strip_mask.proofs.ByMembers.{has-empty, has-meet, has-with_same, has-without_other, has_from_meet, has_from_with, empty_from, same_has}
use Rattle.strip_mask.proofs.Sizes.{mark}

-- the days of those scenes of a list that pass a test
abbrev pub days_of : List ℕ → (ℕ → Bool) → List ℕ → ℕ
days_of days test scenes = sum_by (slice_index days) (filter test scenes)

days-cons : (days : List ℕ) (test : ℕ → Bool) (x : ℕ) (xs : List ℕ) → days_of days test (x ∷ xs) ≡ mark (test x) * slice_index days x + days_of days test xs
days-cons days test x xs = by_test (test x) refl
  where
    by_test : (b : Bool) → test x ≡ b → days_of days test (x ∷ xs) ≡ mark (test x) * slice_index days x + days_of days test xs
    by_test true passes = ap (λ (b : Bool). sum_by (slice_index days) (cond {A = List ℕ} b (x ∷ filter test xs) (filter test xs))) passes ∙ sum_by-cons (slice_index days) x
        (filter test xs)
        ∙ (let one : mark (test x) * slice_index days x ≡ 1 * slice_index days x = ap (λ (b : Bool). mark b * slice_index days x) passes in omega (arith, one))
    by_test false fails = ap (λ (b : Bool). sum_by (slice_index days) (cond {A = List ℕ} b (x ∷ filter test xs) (filter test xs))) fails
        ∙ (let none : mark (test x) * slice_index days x ≡ 0 * slice_index days x = ap (λ (b : Bool). mark b * slice_index days x) fails in omega (arith, none))

pub days_split : (days : List ℕ) (p q r : ℕ → Bool) (xs : List ℕ) → ((x : ℕ) → mark (p x) + mark (q x) ≡ mark (r x)) → days_of days p xs + days_of days q xs ≡ days_of days r xs
days_split days p q r [] split = refl
days_split days p q r (x ∷ xs) split =
    let rest : days_of days p xs + days_of days q xs ≡ days_of days r xs = days_split days p q r xs split in
    let here : (mark (p x) + mark (q x)) * slice_index days x ≡ mark (r x) * slice_index days x = ap (λ (n : ℕ). n * slice_index days x) (split x) in
    omega (arith, days-cons days p x xs, days-cons days q x xs, days-cons days r x xs, rest, here)

-- ---- waiting

-- the set has someone of the other, or no one
pub met : (cast actors i : ℕ) → has cast i ≡ true → has actors i ≡ true → eqb (meet cast actors) 0 ≡ false
met cast actors i here there = false_from_ne_true (eqb (meet cast actors) 0) (λ none.
    false≢true (sym (has-empty i) ∙ ap (λ (s : ℕ). has s i) (sym (eqb-true (meet cast actors) 0 none)) ∙ has-meet cast actors i ∙ and_from (has cast i) (has actors i) here there))

pub unmet : (cast actors : ℕ) → ((i : ℕ) → has cast i ≡ true → has actors i ≡ true → ⊥) → eqb (meet cast actors) 0 ≡ true
unmet cast actors apart = eq-eqb (meet cast actors) 0 (empty_from (meet cast actors) (λ i. false_from_ne_true (has (meet cast actors) i) (λ there.
    (let both = has_from_meet cast actors i there in apart i both.0 both.1))))

pub waits : (cast actors actor : ℕ) → has actors actor ≡ true
    → mark (not (eqb (meet cast (without actors actor)) 0) && not (has cast actor)) + mark (eqb (meet cast actors) 0) ≡ mark (eqb (meet cast (with 0 actor)) 0)
waits cast actors actor there = elim (cases_Bool (has cast actor)) [
  | inl works ↦ (
      let first : mark (not (eqb (meet cast (without actors actor)) 0) && not (has cast actor)) ≡ 0
      = ap (λ (b : Bool). mark (not (eqb (meet cast (without actors actor)) 0) && not b)) works ∙ never (not (eqb (meet cast (without actors actor)) 0)) in
      let second : mark (eqb (meet cast actors) 0) ≡ 0 = ap mark (met cast actors actor works there) in
      let third : mark (eqb (meet cast (with 0 actor)) 0) ≡ 0 = ap mark (met cast (with 0 actor) actor works (has-with_same 0 actor)) in
      omega (arith, first, second, third))
  | inr lacks ↦ (
      let first : mark (not (eqb (meet cast (without actors actor)) 0) && not (has cast actor)) + mark (eqb (meet cast (without actors actor)) 0) ≡ 1
      = ap (λ (b : Bool). mark (not (eqb (meet cast (without actors actor)) 0) && not b) + mark (eqb (meet cast (without actors actor)) 0)) lacks ∙ either (eqb (meet cast
      (without actors actor)) 0) in
      let second : mark (eqb (meet cast (without actors actor)) 0) ≡ mark (eqb (meet cast actors) 0) = ap (λ (s : ℕ). mark (eqb s 0)) (same lacks) in
      let third : mark (eqb (meet cast (with 0 actor)) 0) ≡ 1 = ap mark (unmet cast (with 0 actor) (λ i here one. elim (has_from_with 0 actor i one) [
        | inl is ↦ false≢true (sym lacks ∙ ap (has cast) is ∙ here)
        | inr none ↦ false≢true (sym (has-empty i) ∙ none)
      ])) in
      omega (arith, first, second, third))
]
  where
    never : (b : Bool) → mark (b && not true) ≡ 0
    never true = refl
    never false = refl

    either : (b : Bool) → mark (not b && not false) + mark b ≡ 1
    either true = refl
    either false = refl

    same : has cast actor ≡ false → meet cast (without actors actor) ≡ meet cast actors
    same lacks = same_has (meet cast (without actors actor)) (meet cast actors) (λ i. has-meet cast (without actors actor) i ∙ elim (cases_eq actor i) [
      | inl is ↦ (let none : has cast i ≡ false = ap (has cast) (sym is) ∙ lacks in
          ap (λ (b : Bool). b && has (without actors actor) i) none ∙ sym (has-meet cast actors i ∙ ap (λ (b : Bool). b && has actors i) none))
      | inr other ↦ ap (λ (b : Bool). has cast i && b) (has-without_other actors actor i other) ∙ sym (has-meet cast actors i)
    ])
