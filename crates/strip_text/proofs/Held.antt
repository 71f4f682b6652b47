-- Checks that hold tell no fault.
use Rattle.std.proofs.Common.{◌≡◌, ℕ, zero, suc, ◌<◌, Bool, true, List, [], ◌∷◌, ◌++◌, None, Some, refl, ◌∙◌, arith}
use Rattle.std.proofs.lemmas.Bool.{cond-true}
use Rattle.strip_text.specs.Checks.{Check, check, first_fault, below}
use Rattle.strip_text.proofs.Making.{first_fault-append}

-- none of the checks fails
pub record Hold {Fault : Type 0} (checks : List (Check Fault)) : Type 0 where
  pub none : first_fault checks ≡ None

-- no check fails where there is none
pub hold-nil : {Fault : Type 0} → Hold {Fault = Fault} []
hold-nil = record { none = refl }

-- a check that holds, and the others
pub hold-cons : {Fault : Type 0} (holds : Bool) (fault : Fault) (checks : List (Check Fault)) → holds ≡ true → Hold checks → Hold (check holds fault ∷ checks)
hold-cons holds fault checks true_of rest = record { none = cond-true holds (first_fault checks) (Some fault) true_of ∙ rest.none }

-- one list of checks, and then another
pub hold-append : {Fault : Type 0} (checks others : List (Check Fault)) → Hold checks → Hold others → Hold (checks ++ others)
hold-append checks others here there = record { none = first_fault-append checks others here.none ∙ there.none }

-- the checks of each place
pub hold-below : {Fault : Type 0} (n : ℕ) (checks : ℕ → List (Check Fault)) → ((i : ℕ) → i < n → Hold (checks i)) → Hold (below n checks)
hold-below zero checks each = hold-nil
hold-below (suc n) checks each =
    hold-append (below n checks) (checks n) (hold-below n checks (λ i lt. each i (omega arith))) (each n (omega arith))
