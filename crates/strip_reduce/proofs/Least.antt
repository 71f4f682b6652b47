-- The least number that passes a test, and the least two.
use Rattle.std.proofs.Common.{◌≡◌, ℕ, zero, suc, ◌+◌, ◌<◌, ◌≤◌, Bool, true, false, cond, ◌&&◌, ltb, [], ◌∷◌, Option, Some, None, ◌⊎◌, inl, inr, refl, sym, ap, ◌∙◌, subst, arith}
use Rattle.std.specs.Option.{option_or, is_some}
use Rattle.std.proofs.lemmas.Bool.{and_parts, cases_lt, cases_eq, cases_Bool, lt-ltb, ltb-true}
use Rattle.std.proofs.lemmas.Bool.Decides.{nat_tests}
use Rattle.std.proofs.lemmas.List.Folds.{find-append}
use Rattle.strip_mask.specs.Set.{numbers_below}
use Rattle.strip_reduce.specs.Reduction.{least_below, least_behind, least_two}
use Rattle.strip_reduce.specs.Search.{NoTwoBelow}

-- no number below n passes
pub record NonePasses (n : ℕ) (test : ℕ → Bool) : Type 0 where
  pub each : (j : ℕ) → j < n → test j ≡ false

-- the number is the least below n that passes
pub record IsLeastBelow (n : ℕ) (test : ℕ → Bool) (i : ℕ) : Type 0 where
  pub below : i < n
  pub passes : test i ≡ true
  pub before : (j : ℕ) → j < i → test j ≡ false

least_step : (n : ℕ) (test : ℕ → Bool) → least_below (suc n) test ≡ option_or (least_below n test) (cond (test n) (Some n) None)
unfolding numbers_below
least_step n test = find-append test (numbers_below n) (n ∷ [])

pub least_none : (n : ℕ) (test : ℕ → Bool) → ((j : ℕ) → j < n → test j ≡ false) → least_below n test ≡ None
unfolding numbers_below
least_none zero test none = refl
least_none (suc n) test none = least_step n test ∙ rw (least_none n test (λ j below. none j (omega arith)), none n (omega arith)) refl

pub least_is : (n : ℕ) (test : ℕ → Bool) (i : ℕ) → i < n → test i ≡ true → ((j : ℕ) → j < i → test j ≡ false) → least_below n test ≡ Some i
least_is zero test i below passes before = absurd (omega arith)
least_is (suc n) test i below passes before = least_step n test ∙ elim (cases_eq i n) [
  | inl is ↦ (let earlier : least_below n test ≡ None = least_none n test (λ j lt. before j (omega arith)) in
      let here : test n ≡ true = subst (λ (k : ℕ). test k ≡ true) is passes in
      rw (earlier, here, is) refl)
  | inr other ↦ (let earlier : least_below n test ≡ Some i = least_is n test i (omega arith) passes before in rw earlier refl)
]

-- there is a least one, or none
pub least_cases : (n : ℕ) (test : ℕ → Bool) → ((i : ℕ) × IsLeastBelow n test i) ⊎ NonePasses n test
least_cases zero test = inr (record { each = λ j below. absurd (omega arith) })
least_cases (suc n) test = elim (least_cases n test) [
  | inl found ↦ inl (found.0, record { below = let lt : found.0 < n = found.1.below in omega arith; passes = found.1.passes; before = found.1.before })
  | inr none ↦ elim (cases_Bool (test n)) [
    | inl here ↦ inl (n, record { below = omega arith; passes = here; before = none.each })
    | inr absent ↦ inr (record {
      each = λ j below. elim (cases_eq j n) [
        | inl is ↦ subst (λ (k : ℕ). test k ≡ false) (sym is) absent
        | inr other ↦ none.each j (omega arith)
      ];
    })
  ]
]

-- what the answer tells
pub least_told : (n : ℕ) (test : ℕ → Bool) (i : ℕ) → least_below n test ≡ Some i → IsLeastBelow n test i
least_told n test i told = elim (least_cases n test) [
  | inl found ↦ (let again : least_below n test ≡ Some found.0 = least_is n test found.0 found.1.below found.1.passes found.1.before in
      let same : found.0 ≡ i = cc in
      subst (IsLeastBelow n test) same found.1)
  | inr none ↦ (let never : least_below n test ≡ None = least_none n test none.each in absurd (cc))
]

pub none_told : (n : ℕ) (test : ℕ → Bool) → least_below n test ≡ None → NonePasses n test
none_told n test told = elim (least_cases n test) [
  | inl found ↦ (let again : least_below n test ≡ Some found.0 = least_is n test found.0 found.1.below found.1.passes found.1.before in absurd (cc))
  | inr none ↦ none
]

-- ---- two numbers

-- the two are those of the least first number that pass, and then of the least second one
pub record AreLeastTwo (n : ℕ) (test : ℕ → ℕ → Bool) (a b : ℕ) : Type 0 where
  pub rise : a < b
  pub below : b < n
  pub pass : test a b ≡ true
  pub before : NoTwoBelow a n test
  pub between : (j : ℕ) → a < j → j < b → test a j ≡ false

pub behind_is : (n : ℕ) (test : ℕ → ℕ → Bool) (a b : ℕ) → a < b → b < n → test a b ≡ true → ((j : ℕ) → a < j → j < b → test a j ≡ false) → least_behind n test a ≡ Some b
behind_is n test a b rise below pass between =
    least_is n (λ j. ltb a j && test a j) b below (rw (lt-ltb a b rise) pass) (λ j lt. elim (cases_lt a j) [
      | inl past ↦ rw (lt-ltb a j past) (between j past lt)
      | inr not_past ↦ (let out : ltb a j ≡ false = grind (arith, nat_tests) in rw out refl)
    ])

pub behind_none : (n : ℕ) (test : ℕ → ℕ → Bool) (a : ℕ) → ((j : ℕ) → a < j → j < n → test a j ≡ false) → least_behind n test a ≡ None
behind_none n test a none =
    least_none n (λ j. ltb a j && test a j) (λ j lt. elim (cases_lt a j) [
      | inl past ↦ rw (lt-ltb a j past) (none j past lt)
      | inr not_past ↦ (let out : ltb a j ≡ false = grind (arith, nat_tests) in rw out refl)
    ])

pub least_two_is : (n : ℕ) (test : ℕ → ℕ → Bool) (a b : ℕ) → AreLeastTwo n test a b → least_two n test ≡ Some (a, b)
least_two_is n test a b two =
    let rise : a < b = two.rise in
    let below : b < n = two.below in
    let second : least_behind n test a ≡ Some b = behind_is n test a b rise below two.pass two.between in
    let first : least_below n (λ i. is_some (least_behind n test i)) ≡ Some a = least_is n (λ i. is_some (least_behind n test i)) a (omega arith) (ap is_some second)
    (λ i lt. ap is_some (behind_none n test i (λ j past small. two.before.each i j lt past small))) in
    rw first (rw second refl)

pub least_two_none : (n : ℕ) (test : ℕ → ℕ → Bool) → ((i j : ℕ) → i < j → j < n → test i j ≡ false) → least_two n test ≡ None
least_two_none n test none =
    let first : least_below n (λ i. is_some (least_behind n test i)) ≡ None = least_none n (λ i. is_some (least_behind n test i))
    (λ i lt. ap is_some (behind_none n test i (λ j past small. none i j past small))) in
    rw first refl

-- the least second one at a number
behind_told : (n : ℕ) (test : ℕ → ℕ → Bool) (a b : ℕ) → IsLeastBelow n (λ j. ltb a j && test a j) b → (a < b) × (test a b ≡ true) × ((j : ℕ) → a < j → j < b → test a j ≡ false)
behind_told n test a b least =
    let both = and_parts (ltb a b) (test a b) least.passes in
    (ltb-true a b both.0, both.1, λ j past lt. sym (rw (lt-ltb a j past) refl) ∙ least.before j lt)

behind_cases : (n : ℕ) (test : ℕ → ℕ → Bool) (a : ℕ) → ((b : ℕ) × IsLeastBelow n (λ j. ltb a j && test a j) b) ⊎ ((j : ℕ) → a < j → j < n → test a j ≡ false)
behind_cases n test a = elim (least_cases n (λ j. ltb a j && test a j)) [
  | inl found ↦ inl found
  | inr none ↦ inr (λ j past small. sym (rw (lt-ltb a j past) refl) ∙ none.each j small)
]

-- there are two least, or none
pub least_two_cases : (n : ℕ) (test : ℕ → ℕ → Bool) → ((a : ℕ) × (b : ℕ) × AreLeastTwo n test a b) ⊎ NoTwoBelow n n test
least_two_cases n test = elim (least_cases n (λ i. is_some (least_behind n test i))) [
  | inl found ↦ elim (behind_cases n test found.0) [
    | inl second ↦ (
        let told = behind_told n test found.0 second.0 second.1 in
        inl (
          found.0,
          second.0,
          record {
            rise = told.0;
            below = second.1.below;
            pass = told.1;
            between = told.2;
            before = record { each = λ i j lt past small. none_at i (found.1.before i lt) j past small };
          },
        ))
    | inr never ↦ (let none : least_behind n test found.0 ≡ None = behind_none n test found.0 never in
        let is : is_some (least_behind n test found.0) ≡ true = found.1.passes in
        absurd (absent (least_behind n test found.0) none is))
  ]
  | inr none ↦ inr (record { each = λ i j lt past small. none_at i (none.each i lt) j past small })
]
  where
    absent : (found : Option ℕ) → found ≡ None → is_some found ≡ true → ⊥
    absent None none is = cc
    absent (Some x) none is = cc

    none_at : (i : ℕ) → is_some (least_behind n test i) ≡ false → (j : ℕ) → i < j → j < n → test i j ≡ false
    none_at i none j past small = elim (behind_cases n test i) [
      | inl second ↦ (
          let told = behind_told n test i second.0 second.1 in
          let is : least_behind n test i ≡ Some second.0 = behind_is n test i second.0 told.0 second.1.below told.1 told.2 in
          let yes_there : is_some (least_behind n test i) ≡ true = ap is_some is in
          absurd (cc))
      | inr never ↦ never j past small
    ]

-- what the answer tells
pub least_two_told : (n : ℕ) (test : ℕ → ℕ → Bool) (a b : ℕ) → least_two n test ≡ Some (a, b) → AreLeastTwo n test a b
least_two_told n test a b told = elim (least_two_cases n test) [
  | inl found ↦ (
      let again : least_two n test ≡ Some (found.0, found.1) = least_two_is n test found.0 found.1 found.2 in
      let pair : (found.0, found.1) ≡ (a, b) = some_same (sym again ∙ told) in
      subst (λ (two : ℕ × ℕ). AreLeastTwo n test two.0 two.1) pair found.2)
  | inr none ↦ (let never : least_two n test ≡ None = least_two_none n test (λ i j past small. none.each i j (omega arith) past small) in absurd (cc))
]
  where
    some_same : {two other : ℕ × ℕ} → Some two ≡ Some other → two ≡ other
    some_same same = cc

pub no_two_told : (n : ℕ) (test : ℕ → ℕ → Bool) → least_two n test ≡ None → NoTwoBelow n n test
no_two_told n test told = elim (least_two_cases n test) [
  | inl found ↦ (let again : least_two n test ≡ Some (found.0, found.1) = least_two_is n test found.0 found.1 found.2 in absurd (cc))
  | inr none ↦ none
]

-- ---- one number after the other

pub next_apart : (n : ℕ) (test : ℕ → ℕ → Bool) (a : ℕ) → NoTwoBelow a n test → least_behind n test a ≡ None → NoTwoBelow (a + 1) n test
next_apart n test a apart none = record {
  each = λ i j lt past small. elim (cases_eq i a) [
    | inl is ↦ (
        let absent : (ltb a j && test a j) ≡ false = (none_told n (λ k. ltb a k && test a k) none).each j small in
        let behind : a < j = omega arith in
        subst (λ (k : ℕ). test k j ≡ false) (sym is) (sym (rw (lt-ltb a j behind) refl) ∙ absent))
    | inr other ↦ apart.each i j (omega arith) past small
  ];
}

pub first_two : (n : ℕ) (test : ℕ → ℕ → Bool) (a b : ℕ) → NoTwoBelow a n test → least_behind n test a ≡ Some b → least_two n test ≡ Some (a, b)
first_two n test a b apart found =
    let least : IsLeastBelow n (λ j. ltb a j && test a j) b = least_told n (λ j. ltb a j && test a j) b found in
    let told = behind_told n test a b least in
    least_two_is n test a b (record { rise = told.0; below = least.below; pass = told.1; before = apart; between = told.2 })

pub no_two : (n : ℕ) (test : ℕ → ℕ → Bool) (a : ℕ) → n ≤ a → NoTwoBelow a n test → least_two n test ≡ None
no_two n test a all apart = least_two_none n test (λ i j past small. apart.each i j (omega arith) past small)
