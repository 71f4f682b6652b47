-- Checks that pass, and the one that fails.
use Rattle.std.proofs.Common.{◌≡◌, ◌<◌, ◌+◌, ◌⊎◌, ℕ, zero, suc, Bool, true, false, cond, List, [], ◌∷◌, ◌++◌, Option, Some, None, Result, Ok, Err, refl, ◌∙◌, subst, inl, inr, arith, add-one, IsErrAnd}
use Rattle.std.proofs.lemmas.Bool.{cases_lt}
use Rattle.strip_text.specs.Checks.{Check, check, first_fault, below, MakesOr}

-- a check that holds leaves the rest
pub passes : {Fault : Type 0} (holds : Bool) (fault : Fault) (checks : List (Check Fault)) (found : Option Fault) → holds ≡ true
    → first_fault checks ≡ found → first_fault (check holds fault ∷ checks) ≡ found
passes true fault checks found is rest = rest
passes false fault checks found is rest = cc is

-- a check that fails has the first fault
pub fails : {Fault : Type 0} (holds : Bool) (fault : Fault) (checks : List (Check Fault)) → holds ≡ false → first_fault (check holds fault ∷ checks) ≡ Some fault
fails true fault checks is = cc is
fails false fault checks is = refl

-- what the first check says, and what is left of the others
pub first-none : {Fault : Type 0} (holds : Bool) (fault : Fault) (found : Option Fault) → cond holds found (Some fault) ≡ None → (holds ≡ true) × (found ≡ None)
first-none true fault found none = (refl, none)
first-none false fault found none = cc none

first-some : {Fault : Type 0} (holds : Bool) (fault other : Fault) (found later : Option Fault) → cond holds found (Some fault) ≡ Some other
    → (found ≡ Some other → later ≡ Some other) → cond holds later (Some fault) ≡ Some other
first-some true fault other found later some more = more some
first-some false fault other found later some more = some

-- checks that all hold leave those behind them
pub first_fault-append : {Fault : Type 0} (xs ys : List (Check Fault)) → first_fault xs ≡ None → first_fault (xs ++ ys) ≡ first_fault ys
first_fault-append [] ys none = refl
first_fault-append (x ∷ xs) ys none =
    let first = first-none x.holds x.fault (first_fault xs) none in
    let here : first_fault (x ∷ xs ++ ys) ≡ first_fault (xs ++ ys) = rw first.0 refl in
    here ∙ first_fault-append xs ys first.1

-- a fault among checks comes before those behind them
pub first_fault-front : {Fault : Type 0} (xs ys : List (Check Fault)) (fault : Fault) → first_fault xs ≡ Some fault → first_fault (xs ++ ys) ≡ Some fault
first_fault-front [] ys fault found = cc found
first_fault-front (x ∷ xs) ys fault found =
    first-some x.holds x.fault fault (first_fault xs) (first_fault (xs ++ ys)) found (first_fault-front xs ys fault)

-- the checks of one more place
pub below-more : {Fault : Type 0} (n : ℕ) (checks : ℕ → List (Check Fault)) → first_fault (below n checks) ≡ None → first_fault (checks n) ≡ None → first_fault (below (n + 1) checks) ≡ None
below-more n checks before here = rw (add-one n) (first_fault-append (below n checks) (checks n) before ∙ here)

-- a fault at a place comes before those of later places
pub below-fault : {Fault : Type 0} (place n : ℕ) (checks : ℕ → List (Check Fault)) (fault : Fault) → place < n → first_fault (below place checks) ≡ None
    → first_fault (checks place) ≡ Some fault → first_fault (below n checks) ≡ Some fault
below-fault place zero checks fault within before here = absurd (omega arith)
below-fault place (suc n) checks fault within before here = elim (cases_lt place n) [
  | inl earlier ↦ first_fault-front (below n checks) (checks n) fault (below-fault place n checks fault earlier before here)
  | inr last ↦ (let same : place ≡ n = omega arith in
      first_fault-append (below n checks) (checks n) (subst (λ k. first_fault (below k checks) ≡ None) same before)
      ∙ subst (λ k. first_fault (checks k) ≡ Some fault) same here)
]

-- where the checks at a place fail or memory runs out, so do all up to a later one
pub makes-at : {Fault : Type 0} {memory : Fault} (place n : ℕ) (checks : ℕ → List (Check Fault)) (fault : Fault) → place < n → first_fault (below place checks) ≡ None
    → (fault ≡ memory) ⊎ (first_fault (checks place) ≡ Some fault) → (fault ≡ memory) ⊎ (first_fault (below n checks) ≡ Some fault)
makes-at place n checks fault within before (inl memory) = inl memory
makes-at place n checks fault within before (inr found) = inr (below-fault place n checks fault within before found)

-- a check that holds leaves the answer of the rest
pub makes-behind : {Fault : Type 0} {memory : Fault} (holds : Bool) (fault : Fault) (checks : List (Check Fault)) (found : Fault) → holds ≡ true
    → (found ≡ memory) ⊎ (first_fault checks ≡ Some found) → (found ≡ memory) ⊎ (first_fault (check holds fault ∷ checks) ≡ Some found)
makes-behind true fault checks found is made = made
makes-behind false fault checks found is made = cc is

-- what a call answers that hands on a fault
pub makes-handed_on : {Fault T : Type 0} {memory : Fault} (checks : List (Check Fault)) (made : Result T Fault) (fault : Fault) → IsErrAnd made (λ other. other ≡ fault)
    → (fault ≡ memory) ⊎ (first_fault checks ≡ Some fault) → MakesOr memory checks made
makes-handed_on checks (Ok value) fault handed found = absurd handed
makes-handed_on checks (Err other) fault handed found = rw handed found

-- a fault among checks comes before those behind them
pub makes-front : {Fault : Type 0} {memory : Fault} (xs ys : List (Check Fault)) (fault : Fault) → (fault ≡ memory) ⊎ (first_fault xs ≡ Some fault) → (fault ≡ memory) ⊎ (first_fault (xs ++ ys) ≡ Some fault)
makes-front xs ys fault (inl memory) = inl memory
makes-front xs ys fault (inr found) = inr (first_fault-front xs ys fault found)

-- checks that all hold leave a fault behind them
pub makes-past : {Fault : Type 0} {memory : Fault} (xs ys : List (Check Fault)) (fault : Fault) → first_fault xs ≡ None → (fault ≡ memory) ⊎ (first_fault ys ≡ Some fault)
    → (fault ≡ memory) ⊎ (first_fault (xs ++ ys) ≡ Some fault)
makes-past xs ys fault none (inl memory) = inl memory
makes-past xs ys fault none (inr found) = inr (first_fault-append xs ys none ∙ found)
