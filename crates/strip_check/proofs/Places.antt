-- Checks one behind the other: what the first fault of all of them is.
use Rattle.std.proofs.Common.{◌≡◌, ℕ, zero, suc, ◌+◌, ◌<◌, Bool, true, false, List, [], ◌∷◌, ◌++◌, None, Some, refl, sym, ◌∙◌, subst, inl, inr, arith}
use Rattle.std.proofs.lemmas.Bool.{cases_lt}
use Rattle.strip_text.specs.Checks.{Check, below, check, checks_of_one, first_fault}
use Rattle.strip_text.proofs.Making.{below-fault, below-more, fails, first_fault-append, first_fault-front, passes, first-none}

-- ---- tests of numbers

-- ---- a check, and then others

module _ {Fault : Type 0} (holds : Bool) (fault : Fault) (xs ys : List (Check Fault)) (is : holds ≡ true) where
  -- a fault of those behind the first
  pub found_behind : (found : Fault) → first_fault xs ≡ Some found → first_fault (check holds fault ∷ xs ++ ys) ≡ Some found
  found_behind found here = passes holds fault (xs ++ ys) (Some found) is (first_fault-front xs ys found here)

  -- or none of them
  pub past_behind : first_fault xs ≡ None → first_fault (check holds fault ∷ xs ++ ys) ≡ first_fault ys
  past_behind none = passes holds fault (xs ++ ys) (first_fault ys) is (first_fault-append xs ys none)

-- one list of checks behind another
module _ {Fault : Type 0} (xs ys : List (Check Fault)) where
  pub found_before : (found : Fault) → Some found ≡ first_fault xs → Some found ≡ first_fault (xs ++ ys)
  found_before found here = sym (first_fault-front xs ys found (sym here))

  pub past_before : None ≡ first_fault xs → first_fault ys ≡ first_fault (xs ++ ys)
  past_before none = sym (first_fault-append xs ys (sym none))

-- where no check of a list fails, none of any part of it does
pub none_in : {Fault : Type 0} (xs ys : List (Check Fault)) → first_fault (xs ++ ys) ≡ None → (first_fault xs ≡ None) × (first_fault ys ≡ None)
none_in [] ys none = (refl, none)
none_in (x ∷ xs) ys none =
    let first = first-none x.holds x.fault (first_fault (xs ++ ys)) none in
    let rest = none_in xs ys first.1 in
    (passes x.holds x.fault xs None first.0 rest.0, rest.1)

-- ---- checks at places

module _ {Fault : Type 0} (test : ℕ → Bool) (fault : ℕ → Fault) where
  -- the check at each place
  abbrev pub at_place : ℕ → List (Check Fault)
  at_place place = checks_of_one (test place) (fault place)

  pub place_fails : (place n : ℕ) → place < n → first_fault (below place at_place) ≡ None → test place ≡ false
      → first_fault (below n at_place) ≡ Some (fault place)
  place_fails place n within before fails_here =
      below-fault place n at_place (fault place) within before (fails (test place) (fault place) [] fails_here)

  pub place_holds : (place : ℕ) → first_fault (below place at_place) ≡ None → test place ≡ true → first_fault (below (place + 1) at_place) ≡ None
  place_holds place before holds = below-more place at_place before (passes (test place) (fault place) [] None holds refl)

  -- where no check fails, the test holds of each place, and the other way round
  pub each_holds : (n : ℕ) → first_fault (below n at_place) ≡ None → (place : ℕ) → place < n → test place ≡ true
  each_holds zero none place within = absurd (omega (arith, within))
  each_holds (suc n) none place within =
      let parts = none_in (below n at_place) (at_place n) none in
      elim (cases_lt place n) [
        | inl less ↦ each_holds n parts.0 place less
        | inr last ↦ (let same : n ≡ place = omega (arith, within, last) in
            subst (λ (k : ℕ). test k ≡ true) same (first-none (test n) (fault n) None parts.1).0)
      ]

  pub all_hold : (n : ℕ) → ((place : ℕ) → place < n → test place ≡ true) → first_fault (below n at_place) ≡ None
  all_hold zero each = refl
  all_hold (suc n) each =
      first_fault-append (below n at_place) (at_place n) (all_hold n (λ place within. each place (omega (arith, within))))
      ∙ passes (test n) (fault n) [] None (each n (omega arith)) refl
