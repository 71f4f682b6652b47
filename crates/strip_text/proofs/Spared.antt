-- Checks of which none has this fault, as want of memory, which is no fault of a text.
use Rattle.std.proofs.Common.{◌≡◌, ◌≢◌, ℕ, zero, suc, Bool, true, false, List, [], ◌∷◌, ◌++◌, None, Some, sym, ◌∙◌, inl, inr, if◌then◌else◌}
use Rattle.std.proofs.lemmas.Bool.{cases_Bool, cond-true, cond-false}
use Rattle.strip_text.specs.Checks.{Check, check, first_fault, below}

-- the first fault isn't this one
pub record Spares {Fault : Type 0} (spared : Fault) (checks : List (Check Fault)) : Type 0 where
  pub never : first_fault checks ≢ Some spared

some_same : {Fault : Type 0} (a b : Fault) → Some a ≡ Some b → a ≡ b
some_same a b same = cc

none_some : {Fault : Type 0} (fault : Fault) → None ≡ Some fault → ⊥
none_some fault same = cc

pub spares-nil : {Fault : Type 0} (spared : Fault) → Spares spared []
spares-nil spared = record { never = none_some spared }

pub spares-cons : {Fault : Type 0} {spared : Fault} (holds : Bool) (fault : Fault) (checks : List (Check Fault)) → fault ≢ spared → Spares spared checks
    → Spares spared (check holds fault ∷ checks)
spares-cons true fault checks other rest = record { never = rest.never }
spares-cons {spared = spared} false fault checks other rest = record { never = λ found. other (some_same fault spared found) }

pub spares-append : {Fault : Type 0} {spared : Fault} (xs ys : List (Check Fault)) → Spares spared xs → Spares spared ys → Spares spared (xs ++ ys)
spares-append [] ys one two = two
spares-append {spared = spared} (x ∷ xs) ys one two = elim (cases_Bool x.holds) [
  | inl holds ↦ (let rest : Spares spared xs = record { never = λ found. one.never (cond-true x.holds (first_fault xs) (Some x.fault) holds ∙ found) } in
      record { never = λ found. (spares-append xs ys rest two).never (sym (cond-true x.holds (first_fault (xs ++ ys)) (Some x.fault) holds) ∙ found) })
  | inr fails ↦ record {
    never = λ found. one.never (cond-false x.holds (first_fault xs) (Some x.fault) fails
        ∙ sym (cond-false x.holds (first_fault (xs ++ ys)) (Some x.fault) fails) ∙ found);
  }
]

pub spares-below : {Fault : Type 0} {spared : Fault} (n : ℕ) (checks : ℕ → List (Check Fault)) → ((k : ℕ) → Spares spared (checks k)) → Spares spared (below n checks)
spares-below {spared = spared} zero checks each = spares-nil spared
spares-below (suc n) checks each = spares-append (below n checks) (checks n) (spares-below n checks each) (each n)

pub spares-if : {Fault : Type 0} {spared : Fault} (b : Bool) (xs ys : List (Check Fault)) → Spares spared xs → Spares spared ys → Spares spared (if b then xs else ys)
spares-if true xs ys one two = one
spares-if false xs ys one two = two
