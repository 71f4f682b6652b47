-- The laws: one result of a pass, and what is added at one set.
use Rattle.std.proofs.Common.{◌≡◌, ◌≢◌, ℕ, zero, suc, ◌+◌, ◌^◌, ◌<◌, ◌≤◌, ◌==◌, true, false, not, ◌&&◌, cond, sym, ap, ◌∙◌, subst, inl, inr, arith}
use Rattle.std.proofs.lemmas.Bool.{cases_eq, false≢true, cases_Bool, false_from_ne_true}
use Rattle.std.proofs.lemmas.Bool.Decides.{nat_tests}
use Rattle.strip_mask.specs.Set.{has, minus, with, without}
use Rattle.strip_mask.proofs.ByMembers.{empty_from, has-empty, has-minus, has-without, has-with_same, has_from_minus, has_from_without, with-without, without-with}
use Rattle.strip_sets.specs.Numbers.{counted, sum_within}
use Rattle.strip_sets.specs.Saving.{Saves}
use Rattle.strip_sets.specs.Laws.{MoreInEachAbove, OneMost}
use Rattle.strip_sets.proofs.Parts.{counted_other, counted_same, within_agree}
use Rattle.strip_sets.proofs.Sets.{below_top, lacks_top, without_less, without_top}

no_less : (places : ℕ) (hold days : ℕ → ℕ) (owed : ℕ → ℕ → ℕ) (first most other : ℕ → ℕ) → Saves places hold days owed first most → Saves places hold days owed first other
    → (m set : ℕ) → set < m → set < 2 ^ places → other set ≤ most set
no_less places hold days owed first most other a b zero set bound lt = absurd (omega (arith, bound))
no_less places hold days owed first most other a b (suc m) set bound lt = elim (b.attained set lt) [
  | inl begun ↦ omega (arith, begun, a.kept set lt)
  | inr step ↦ (
      let less : without set step.0 < set = without_less set step.0 step.1 in
      let rest : other (without set step.0) ≤ most (without set step.0)
      = no_less places hold days owed first most other a b m (without set step.0) (omega (arith, less, bound)) (omega (arith, less, lt)) in
      omega (arith, rest, step.2, a.higher set step.0 lt step.1))
]

pub one_most : OneMost
one_most places hold days owed first most other a b set lt =
    let high : other set ≤ most set = no_less places hold days owed first most other a b (suc set) set (omega arith) lt in
    let low : most set ≤ other set = no_less places hold days owed first other most b a (suc set) set (omega arith) lt in
    omega (arith, low, high)

-- ---- what is added at one set

-- whether a part lies in a set, by one place and the others
test_same : (a b : ℕ) → ((a ≡ 0) → (b ≡ 0)) → ((b ≡ 0) → (a ≡ 0)) → (a == 0) ≡ (b == 0)
test_same a b there back = elim (cases_eq a 0) [
  | inl is ↦ (let also : b ≡ 0 = there is in ap (λ x. x == 0) (is ∙ sym also))
  | inr other ↦ (let also : b ≢ 0 = λ is. other (back is) in
      let t : (a == 0) ≡ false = grind (arith, nat_tests) in let s : (b == 0) ≡ false = grind (arith, nat_tests) in t ∙ sym s)
]

lies : (a set : ℕ) → minus a set ≡ 0 → (i : ℕ) → has a i ≡ true → has set i ≡ true
lies a set none i there = elim (cases_Bool (has set i)) [
  | inl member ↦ member
  | inr missing ↦ absurd (false≢true (sym (has-empty i) ∙ ap (λ s. has s i) (sym none) ∙ has-minus a set i ∙ (λ k. there k && not (missing k))))
]

none_out : (a set : ℕ) → ((i : ℕ) → has a i ≡ true → has set i ≡ true) → minus a set ≡ 0
none_out a set part = empty_from (minus a set) (λ i. false_from_ne_true (has (minus a set) i) (λ there. (let both = has_from_minus a set i there in
    false≢true (sym both.1 ∙ part i both.0))))

-- of a part with a place that the set has
part_test : (n part set : ℕ) → has set n ≡ true → (minus (without part n) set == 0) ≡ (minus part set == 0)
part_test n part set there = test_same (minus (without part n) set) (minus part set)
    (λ none. none_out part set (λ i member. elim (cases_eq n i) [
      | inl is ↦ subst (λ k. has set k ≡ true) is there
      | inr other ↦ lies (without part n) set none i (has-without part n i ∙ (let t = other_test n i other in ap (λ b. not b && has part i) t ∙ member))
    ]))
    (λ none. none_out (without part n) set (λ i member. lies part set none i (has_from_without part n i member).1))
  where
    other_test : (n i : ℕ) → n ≢ i → (n == i) ≡ false
    other_test n i other = grind (arith, nat_tests)

pub more_in_each_above : MoreInEachAbove
more_in_each_above zero numbers part more set lt =
    let none : part ≡ 0 = omega (arith, lt) in
    let empty : minus part set ≡ 0 = none_out part set (λ i there. absurd (false≢true (sym (has-empty i) ∙ ap (λ s. has s i) (sym none) ∙ there))) in
    omega (arith, counted_same 0 part more (sym none), counted_same (minus part set) 0 more empty)
more_in_each_above (suc n) numbers part more set lt = elim (cases_Bool (has part n)) [
  | inl there ↦ (
      let rest : ℕ = without part n in
      let small : rest < 2 ^ n = without_top n part lt in
      let low : sum_within n (λ other. numbers other + counted (other == part) more) set ≡ sum_within n numbers set
      = within_agree n (λ other. numbers other + counted (other == part) more) numbers set (λ other less. (
      let apart : other ≢ part = λ same. false≢true (sym (lacks_top n other less) ∙ ap (λ s. has s n) same ∙ there) in
      omega (arith, counted_other other part more apart))) in
      let high : sum_within n (λ other. numbers (with other n) + counted (with other n == part) more) set
      ≡ sum_within n (λ other. numbers (with other n)) set + counted (minus rest set == 0) more
      = within_agree n (λ other. numbers (with other n) + counted (with other n == part) more) (λ other. numbers (with other n) + counted (other == rest) more) set
      (λ other less. ap (λ x. numbers (with other n) + x) (elim (cases_eq other rest) [
        | inl same ↦ counted_same (with other n) part more (ap (λ s. with s n) same ∙ with-without part n there) ∙ sym (counted_same other rest more same)
        | inr apart ↦ counted_other (with other n) part more (λ same. apart (sym (without-with other n (lacks_top n other less)) ∙ ap (λ s. without s n) same))
            ∙ sym (counted_other other rest more apart)
      ])) ∙ more_in_each_above n (λ other. numbers (with other n)) rest more set small in
      elim (cases_Bool (has set n)) [
        | inl member ↦ (
            let test : counted (minus rest set == 0) more ≡ counted (minus part set == 0) more = ap (λ t. counted t more) (part_test n part set member) in
            let new : cond {A = ℕ} (has set n) (sum_within n (λ other. numbers (with other n) + counted (with other n == part) more) set) 0
            ≡ sum_within n (λ other. numbers (with other n)) set + counted (minus rest set == 0) more = (λ i. cond {A = ℕ} (member i) (high i) 0) in
            let old : cond {A = ℕ} (has set n) (sum_within n (λ other. numbers (with other n)) set) 0 ≡ sum_within n (λ other. numbers (with other n)) set
            = ap (λ b. cond {A = ℕ} b (sum_within n (λ other. numbers (with other n)) set) 0) member in
            omega (arith, low, new, old, test))
        | inr missing ↦ (
            let out : minus part set ≢ 0 = λ none. false≢true (sym missing ∙ lies part set none n there) in
            let new : cond {A = ℕ} (has set n) (sum_within n (λ other. numbers (with other n) + counted (with other n == part) more) set) 0 ≡ 0
            = ap (λ b. cond {A = ℕ} b (sum_within n (λ other. numbers (with other n) + counted (with other n == part) more) set) 0) missing in
            let old : cond {A = ℕ} (has set n) (sum_within n (λ other. numbers (with other n)) set) 0 ≡ 0
            = ap (λ b. cond {A = ℕ} b (sum_within n (λ other. numbers (with other n)) set) 0) missing in
            omega (arith, low, new, old, counted_other (minus part set) 0 more out))
      ])
  | inr lacking ↦ (
      let low : sum_within n (λ other. numbers other + counted (other == part) more) set ≡ sum_within n numbers set + counted (minus part set == 0) more
      = more_in_each_above n numbers part more set (below_top n part lt lacking) in
      let high : sum_within n (λ other. numbers (with other n) + counted (with other n == part) more) set ≡ sum_within n (λ other. numbers (with other n)) set
      = within_agree n (λ other. numbers (with other n) + counted (with other n == part) more) (λ other. numbers (with other n)) set (λ other less. (
      let apart : with other n ≢ part = λ same. false≢true (sym lacking ∙ ap (λ s. has s n) (sym same) ∙ has-with_same other n) in
      omega (arith, counted_other (with other n) part more apart))) in
      let top : cond {A = ℕ} (has set n) (sum_within n (λ other. numbers (with other n) + counted (with other n == part) more) set) 0
      ≡ cond {A = ℕ} (has set n) (sum_within n (λ other. numbers (with other n)) set) 0 = ap (λ x. cond {A = ℕ} (has set n) x 0) high in
      omega (arith, low, top))
]
