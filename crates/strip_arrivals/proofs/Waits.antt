-- What those who came are paid for waiting at least, where nobody, one or two are here.
use Rattle.std.proofs.Common.{◌≡◌, ◌≢◌, ℕ, suc, ◌+◌, ◌<◌, Bool, true, false, not, ◌&&◌, ◌||◌, cond, eqb, min, List, [], ◌∷◌, Contains, drop, filter, length, slice_index, take, refl, sym, ap, ◌∙◌, subst, inl, inr, arith}
use Rattle.std.proofs.lemmas.Bool.{false≢true, false_from_ne_true, cases_Bool}
use Rattle.std.proofs.lemmas.Bool.{eqb-true}
use Rattle.std.proofs.lemmas.List.{take-append-drop}
use Rattle.std.proofs.lemmas.List.Elements.{Contains-append_left, Contains-append_right}
use Rattle.strip_mask.specs.Set.{has, meet, minus, numbers_below, sum_over, with}
use Rattle.strip_mask.proofs.ByMembers.{empty_from, has-empty, has-meet, has-minus, has-with, has-with_other, same_has}
use Rattle.strip_mask.proofs.Totals.{sum_over-empty, sum_over-with}
use Rattle.strip_mask.specs.Least.{least_over}
use Rattle.strip_group.specs.Group.{GroupData}
use Rattle.strip_arrivals.specs.Arrivals.{StateData, actors_of, mates}
use Rattle.strip_arrivals.specs.Gross.{least_paid, paid_by}
use Rattle.strip_mask.proofs.Lists.{contains_none}
use Rattle.strip_arrivals.proofs.Casts.{has_listed, listed_has, mates_has, without_one}
use Rattle.std.proofs.Math.Nat.{min_comm}
use Rattle.std.proofs.Math.Bool.{and-false}

-- a least over few numbers
one_of : (f : ℕ → ℕ) (b : Bool) → b ≡ true → least_over f (cond b (0 ∷ []) []) ≡ f 0
one_of f true is = refl
one_of f false is = absurd (false≢true is)

two_of : (f : ℕ → ℕ) (a b : Bool) → b ≡ true → least_over f (cond a (0 ∷ cond b (1 ∷ []) []) (cond b (1 ∷ []) [])) ≡ cond {A = ℕ} a (min (f 0) (f 1)) (f 1)
two_of f true true is = refl
two_of f false true is = refl
two_of f a false is = absurd (false≢true is)

three_of : (f : ℕ → ℕ) (a b c : Bool) → c ≡ true
    → least_over f (cond a (0 ∷ cond b (1 ∷ cond c (2 ∷ []) []) (cond c (2 ∷ []) [])) (cond b (1 ∷ cond c (2 ∷ []) []) (cond c (2 ∷ []) [])))
    ≡ cond {A = ℕ} a (cond {A = ℕ} b (min (f 0) (min (f 1) (f 2))) (min (f 0) (f 2))) (cond {A = ℕ} b (min (f 1) (f 2)) (f 2))
three_of f true true true is = refl
three_of f true false true is = refl
three_of f false true true is = refl
three_of f false false true is = refl
three_of f a b false is = absurd (false≢true is)

-- nobody works in a scene, or one, or two
none_in : (cast : ℕ) → eqb (meet cast 0) 0 ≡ true
none_in cast = ap (λ (s : ℕ). eqb s 0) (same_has (meet cast 0) 0 (λ i. has-meet cast 0 i ∙ ap (λ b. has cast i && b) (has-empty i) ∙ and-false (has cast i) ∙ sym (has-empty i)))

one_in : (cast actors one : ℕ) → eqb (meet cast (with actors one)) 0 ≡ (eqb (meet cast actors) 0 && not (has cast one))
one_in cast actors one = without_one (record { casts = cast ∷ []; days = []; holds = [] }) actors one 0

module _ (film : GroupData) (set left coming gone : ℕ) where
  none_met : sum_over film.holds (meet left (mates film set (actors_of []))) ≡ 0
  none_met =
      let none : mates film set (actors_of []) ≡ 0
      = empty_from (mates film set (actors_of [])) (λ i. false_from_ne_true (has (mates film set (actors_of [])) i) (λ there.
      contains_none (mates_has film set [] i there).3.0 (mates_has film set [] i there).3.1)) in
      let nobody : meet left 0 ≡ 0 = same_has (meet left 0) 0 (λ i. has-meet left 0 i ∙ ap (λ b. has left i && b) (has-empty i) ∙ and-false (has left i) ∙ sym (has-empty i)) in
      ap (λ (s : ℕ). sum_over film.holds (meet left s)) none ∙ ap (sum_over film.holds) nobody ∙ sum_over-empty film.holds

  minus_none : (kind : ℕ) → sum_over film.holds (minus 0 kind) ≡ 0
  minus_none kind = ap (sum_over film.holds) (same_has (minus 0 kind) 0 (λ i. has-minus 0 kind i ∙ ap (λ b. b && not (has kind i)) (has-empty i) ∙ sym (has-empty i)))
      ∙ sum_over-empty film.holds

  -- those of a set and one more, but for those who work
  more : (actors one kind : ℕ) → one < 64 → has actors one ≡ false
      → sum_over film.holds (minus (with actors one) kind) ≡ sum_over film.holds (minus actors kind) + cond {A = ℕ} (has kind one) 0 (slice_index film.holds one)
  more actors one kind small other = elim (cases_Bool (has kind one)) [
    | inl works ↦ ap (sum_over film.holds) (same_has (minus (with actors one) kind) (minus actors kind) (λ i.
        has-minus (with actors one) kind i ∙ ap (λ b. b && not (has kind i)) (has-with actors one i)
        ∙ elim (cases_Bool (eqb one i)) [
          | inl is ↦ (let at : has kind i ≡ true = ap (has kind) (sym (eqb-true one i is)) ∙ works in
              ap (λ b. (b || has actors i) && not (has kind i)) is ∙ ap not at ∙ sym (ap (λ b. has actors i && not b) at ∙ off (has actors i)))
          | inr is_not ↦ ap (λ b. (b || has actors i) && not (has kind i)) is_not
        ] ∙ sym (has-minus actors kind i))) ∙ (let nothing : cond {A = ℕ} (has kind one) 0 (slice_index film.holds one) ≡ 0 = ap (λ b. cond {A = ℕ} b 0 (slice_index film.holds one)) works in omega (arith, nothing))
    | inr off_work ↦ (
        let absent : has (minus actors kind) one ≡ false = has-minus actors kind one ∙ ap (λ b. b && not (has kind one)) other in
        let paid : cond {A = ℕ} (has kind one) 0 (slice_index film.holds one) ≡ slice_index film.holds one = ap (λ b. cond {A = ℕ} b 0 (slice_index film.holds one)) off_work in
        ap (sum_over film.holds) (same_has (minus (with actors one) kind) (with (minus actors kind) one) (λ i.
        has-minus (with actors one) kind i ∙ ap (λ b. b && not (has kind i)) (has-with actors one i)
        ∙ elim (cases_Bool (eqb one i)) [
          | inl is ↦ (let at : has kind i ≡ false = ap (has kind) (sym (eqb-true one i is)) ∙ off_work in
              ap (λ b. (b || has actors i) && not (has kind i)) is ∙ ap not at ∙ sym (ap (λ b. b || has (minus actors kind) i) is))
          | inr is_not ↦ ap (λ b. (b || has actors i) && not (has kind i)) is_not ∙ sym (has-minus actors kind i) ∙ sym (ap (λ b. b || has (minus actors kind) i) is_not)
        ] ∙ sym (has-with (minus actors kind) one i)))
        ∙ sum_over-with film.holds (minus actors kind) one small absent ∙ ap (λ (n : ℕ). sum_over film.holds (minus actors kind) + n) (sym paid))
  ]
    where
      off : (b : Bool) → (b && not true) ≡ false
      off true = refl
      off false = refl

  one_paid : (one kind : ℕ) → one < 64 → sum_over film.holds (minus (actors_of (one ∷ [])) kind) ≡ cond {A = ℕ} (has kind one) 0 (slice_index film.holds one)
  one_paid one kind small = omega (arith, more 0 one kind small (has-empty one), minus_none kind)

  pub nobody_waits : (kind : ℕ) → 0 ≡ least_paid film set (record { left = left; coming = coming; here = []; gone = gone }) kind
  unfolding numbers_below
  nobody_waits kind =
      let state : StateData = record { left = left; coming = coming; here = []; gone = gone } in
      let first : paid_by film set state kind 0 ≡ 0 = omega (arith, minus_none kind, none_met) in
      sym (one_of (paid_by film set state kind) (eqb (meet kind 0) 0) (none_in kind) ∙ first)

  pub one_waits : (one kind last paid : ℕ) → one < 64 → paid ≡ cond {A = ℕ} (has kind one) 0 (slice_index film.holds one)
      → last ≡ sum_over film.holds (meet left (mates film set (actors_of (one ∷ []))))
      → cond {A = ℕ} (has kind one) paid (min paid last) ≡ least_paid film set (record { left = left; coming = coming; here = one ∷ []; gone = gone }) kind
  unfolding numbers_below
  one_waits one kind last paid small is for_last =
      let state : StateData = record { left = left; coming = coming; here = one ∷ []; gone = gone } in
      let none : paid_by film set state kind 0 ≡ last = omega (arith, minus_none kind, for_last) in
      let all : paid_by film set state kind 1 ≡ paid = omega (arith, one_paid one kind small, none_met, is) in
      sym (two_of (paid_by film set state kind) (eqb (meet kind (with 0 one)) 0) (eqb (meet kind 0) 0) (none_in kind)
      ∙ ap (λ b. cond {A = ℕ} b (min (paid_by film set state kind 0) (paid_by film set state kind 1)) (paid_by film set state kind 1))
      (one_in kind 0 one ∙ ap (λ b. b && not (has kind one)) (none_in kind))
      ∙ rw (none, all) (by_test (has kind one)))
    where
      by_test : (b : Bool) → cond {A = ℕ} (not b) (min last paid) paid ≡ cond {A = ℕ} b paid (min paid last)
      by_test true = refl
      by_test false = min_comm last paid

  pub two_wait : (one other kind last all first second : ℕ) → one < 64 → other < 64 → one ≢ other
      → first ≡ cond {A = ℕ} (has kind one) 0 (slice_index film.holds one) → second ≡ cond {A = ℕ} (has kind other) 0 (slice_index film.holds other)
      → last ≡ sum_over film.holds (meet left (mates film set (actors_of (other ∷ [])))) → all ≡ sum_over film.holds (meet left (mates film set (actors_of (one ∷ other ∷ []))))
      → cond {A = ℕ} (has kind other) (first + second) (cond {A = ℕ} (has kind one) (min (first + second) (first + last)) (min (min (first + second) (first + last)) all))
      ≡ least_paid film set (record { left = left; coming = coming; here = one ∷ other ∷ []; gone = gone }) kind
  unfolding numbers_below
  two_wait one other kind last all first second small_one small_other apart is_first is_second for_last for_all =
      let state : StateData = record { left = left; coming = coming; here = one ∷ other ∷ []; gone = gone } in
      let none : paid_by film set state kind 0 ≡ all = omega (arith, minus_none kind, for_all) in
      let early : paid_by film set state kind 1 ≡ first + last = omega (arith, one_paid one kind small_one, is_first, for_last) in
      let absent : has (with 0 other) one ≡ false = has-with_other 0 other one (λ same. apart (sym same)) ∙ has-empty one in
      let both : paid_by film set state kind 2 ≡ first + second
      = omega (arith, more (with 0 other) one kind small_one absent, one_paid other kind small_other, is_first, is_second, none_met) in
      sym (three_of (paid_by film set state kind) (eqb (meet kind (with (with 0 other) one)) 0) (eqb (meet kind (with 0 other)) 0) (eqb (meet kind 0) 0) (none_in kind)
      ∙ (λ i. cond {A = ℕ} (first_test i) (cond {A = ℕ} (second_test i) (min (none i) (min (early i) (both i))) (min (none i) (both i))) (cond {A = ℕ} (second_test i) (min (early i) (both i)) (both i)))
      ∙ by_tests (has kind one) (has kind other))
    where
      second_test : eqb (meet kind (with 0 other)) 0 ≡ not (has kind other)
      second_test = one_in kind 0 other ∙ ap (λ b. b && not (has kind other)) (none_in kind)

      first_test : eqb (meet kind (with (with 0 other) one)) 0 ≡ (not (has kind other) && not (has kind one))
      first_test = one_in kind (with 0 other) one ∙ ap (λ b. b && not (has kind one)) second_test

      by_tests : (f s : Bool) → cond {A = ℕ} (not s && not f) (cond {A = ℕ} (not s) (min all (min (first + last) (first + second))) (min all (first + second)))
          (cond {A = ℕ} (not s) (min (first + last) (first + second)) (first + second))
          ≡ cond {A = ℕ} s (first + second) (cond {A = ℕ} f (min (first + second) (first + last)) (min (min (first + second) (first + last)) all))
      by_tests f true = refl
      by_tests true false = min_comm (first + last) (first + second)
      by_tests false false = min_comm all (min (first + last) (first + second)) ∙ ap (λ (n : ℕ). min n all) (min_comm (first + last) (first + second))

-- a cast and the newcomers in it make the same price
pub least_alike : (film : GroupData) (set : ℕ) (state : StateData) (cast kind : ℕ) → ((i : ℕ) → has (actors_of state.here) i ≡ true → has cast i ≡ has kind i)
    → least_paid film set state cast ≡ least_paid film set state kind
least_alike film set state cast kind alike =
    let tests : (number : ℕ) → eqb (meet cast (actors_of (drop number state.here))) 0 ≡ eqb (meet kind (actors_of (drop number state.here))) 0
    = λ number. ap (λ (s : ℕ). eqb s 0) (same_has (meet cast (actors_of (drop number state.here))) (meet kind (actors_of (drop number state.here))) (λ i.
    has-meet cast (actors_of (drop number state.here)) i ∙ met (has cast i) (has kind i) (has (actors_of (drop number state.here)) i)
    (λ there. alike i (listed_drop number state.here i there)) ∙ sym (has-meet kind (actors_of (drop number state.here)) i))) in
    let paid : (number : ℕ) → paid_by film set state cast number ≡ paid_by film set state kind number
    = λ number. ap (λ (s : ℕ). sum_over film.holds s + sum_over film.holds (meet state.left (mates film set (actors_of (drop number state.here)))))
    (same_has (minus (actors_of (take number state.here)) cast) (minus (actors_of (take number state.here)) kind) (λ i.
    has-minus (actors_of (take number state.here)) cast i ∙ off (has cast i) (has kind i) (has (actors_of (take number state.here)) i)
    (λ there. alike i (listed_take number state.here i there)) ∙ sym (has-minus (actors_of (take number state.here)) kind i))) in
    λ j. least_over (λ number. paid number j) (filter (λ number. tests number j) (numbers_below (suc (length state.here))))
  where
    met : (a b t : Bool) → (t ≡ true → a ≡ b) → (a && t) ≡ (b && t)
    met a b true same = ap (λ c. c && true) (same refl)
    met true true false same = refl
    met true false false same = refl
    met false true false same = refl
    met false false false same = refl

    off : (a b t : Bool) → (t ≡ true → a ≡ b) → (t && not a) ≡ (t && not b)
    off a b true same = ap not (same refl)
    off a b false same = refl

    listed_drop : (number : ℕ) (xs : List ℕ) (i : ℕ) → has (actors_of (drop number xs)) i ≡ true → has (actors_of xs) i ≡ true
    listed_drop number xs i there = has_listed xs i (subst (λ (ys : List ℕ). Contains ys i) (take-append-drop number xs) (Contains-append_right (take number xs) (drop number xs) i (listed_has (drop number xs) i there)))

    listed_take : (number : ℕ) (xs : List ℕ) (i : ℕ) → has (actors_of (take number xs)) i ≡ true → has (actors_of xs) i ≡ true
    listed_take number xs i there = has_listed xs i (subst (λ (ys : List ℕ). Contains ys i) (take-append-drop number xs) (Contains-append_left (take number xs) (drop number xs) i (listed_has (take number xs) i there)))
