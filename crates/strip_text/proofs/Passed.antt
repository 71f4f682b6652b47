-- What checks that all hold say, one by one.
use Rattle.std.proofs.Common.{◌≡◌, ◌<◌, ℕ, zero, suc, Bool, true, false, List, [], ◌∷◌, ◌++◌, None, refl, sym, ◌∙◌, inl, inr, arith, subst}
use Rattle.std.proofs.lemmas.Bool.{cases_lt}
use Rattle.strip_text.specs.Checks.{Check, check, first_fault, below}
use Rattle.strip_text.proofs.Making.{first_fault-append}
use Rattle.strip_text.proofs.Held.{Hold}

split : {Fault : Type 0} (holds : Bool) (fault : Fault) (checks : List (Check Fault)) → first_fault (check holds fault ∷ checks) ≡ None
    → (holds ≡ true) × (first_fault checks ≡ None)
split true fault checks none = (refl, none)
split false fault checks none = cc none

-- the first check
pub held : {Fault : Type 0} (holds : Bool) (fault : Fault) (checks : List (Check Fault)) → Hold (check holds fault ∷ checks) → holds ≡ true
held holds fault checks hold = (split holds fault checks hold.none).0

-- and the others
pub others : {Fault : Type 0} (holds : Bool) (fault : Fault) (checks : List (Check Fault)) → Hold (check holds fault ∷ checks) → Hold checks
others holds fault checks hold = record { none = (split holds fault checks hold.none).1 }

none-front : {Fault : Type 0} (xs ys : List (Check Fault)) → first_fault (xs ++ ys) ≡ None → first_fault xs ≡ None
none-front [] ys none = refl
none-front (x ∷ xs) ys none =
    let first = split x.holds x.fault (xs ++ ys) none in
    rw first.0 (none-front xs ys first.1)

-- checks, and those behind them
pub front : {Fault : Type 0} (xs ys : List (Check Fault)) → Hold (xs ++ ys) → Hold xs
front xs ys hold = record { none = none-front xs ys hold.none }

pub back : {Fault : Type 0} (xs ys : List (Check Fault)) → Hold (xs ++ ys) → Hold ys
back xs ys hold = record { none = sym (first_fault-append xs ys (none-front xs ys hold.none)) ∙ hold.none }

-- the checks of a place
pub held-below : {Fault : Type 0} (n : ℕ) (checks : ℕ → List (Check Fault)) (k : ℕ) → k < n → Hold (below n checks) → Hold (checks k)
held-below zero checks k within hold = absurd (omega arith)
held-below (suc n) checks k within hold = elim (cases_lt k n) [
  | inl earlier ↦ held-below n checks k earlier (front (below n checks) (checks n) hold)
  | inr last ↦ (let same : n ≡ k = omega arith in subst (λ i. Hold (checks i)) same (back (below n checks) (checks n) hold))
]

-- fewer places
pub held-fewer : {Fault : Type 0} (n : ℕ) (checks : ℕ → List (Check Fault)) → Hold (below (suc n) checks) → Hold (below n checks)
held-fewer n checks hold = front (below n checks) (checks n) hold
