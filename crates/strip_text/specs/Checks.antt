-- Checks in an order, and the fault of the first one that fails.
use Rattle.std.specs.Prelude.{◌≡◌, ℕ, zero, suc, ◌⊎◌, Bool, true, false, All, List, [], ◌∷◌, ◌++◌, Option, None, Some, Result, Ok, Err, if◌then◌else◌}

-- what has to hold, and the fault where it doesn't
pub record Check (Fault : Type 0) : Type 0 where
  pub holds : Bool
  pub fault : Fault

abbrev pub check : {Fault : Type 0} → Bool → Fault → Check Fault
check holds fault = record { holds = holds; fault = fault }

abbrev pub checks_of_one : {Fault : Type 0} → Bool → Fault → List (Check Fault)
checks_of_one holds fault = check holds fault ∷ []

abbrev pub first_fault : {Fault : Type 0} → List (Check Fault) → Option Fault
first_fault [] = None
first_fault (check ∷ checks) = if check.holds then first_fault checks else Some check.fault

-- a check with this fault fails, and all before it hold
pub record IsFirst {Fault : Type 0} (checks : List (Check Fault)) (fault : Fault) : Type 0 where
  pub before : List (Check Fault)
  pub after : List (Check Fault)
  pub parts : checks ≡ before ++ check false fault ∷ after
  pub hold : All (λ earlier. earlier.holds ≡ true) before

-- the checks of the places 0, 1, .. up to n - 1, in this order
abbrev pub below : {Fault : Type 0} → ℕ → (ℕ → List (Check Fault)) → List (Check Fault)
below zero checks = []
below (suc n) checks = below n checks ++ checks n

-- what a call answers that makes these checks: no fault where all hold, else the first one's, or want of memory
abbrev pub MakesOr : {Fault T : Type 0} → Fault → List (Check Fault) → Result T Fault → Type 0
MakesOr memory checks (Ok _) = first_fault checks ≡ None
MakesOr memory checks (Err fault) = (fault ≡ memory) ⊎ (first_fault checks ≡ Some fault)
