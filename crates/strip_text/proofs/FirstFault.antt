-- The fault of some checks is that of the first one that fails.
use Rattle.std.proofs.Common.{◌≡◌, true, false, List, [], ◌∷◌, None, Some, All, refl, sym, ap, ◌∙◌, inl, inr}
use Rattle.std.proofs.lemmas.Bool.{cases_Bool, cond-true, cond-false}
use Rattle.std.proofs.lemmas.List.Elements.{All-nil, All-cons, All-head, All-tail}
use Rattle.strip_text.specs.Checks.{Check, IsFirst, check, first_fault}
use Rattle.strip_text.proofs.Making.{first_fault-append}
use Rattle.strip_text.proofs.Held.{Hold}
use Rattle.strip_text.proofs.Passed.{held, others}

some_same : {Fault : Type 0} (a b : Fault) → Some a ≡ Some b → a ≡ b
some_same a b same = cc

no_fault : {Fault : Type 0} (fault : Fault) → None ≡ Some fault → ⊥
no_fault fault same = cc

-- where there is no fault all hold, and the other way round
pub hold-from_none : {Fault : Type 0} (checks : List (Check Fault)) → first_fault checks ≡ None → All (λ (earlier : Check Fault). earlier.holds ≡ true) checks
hold-from_none {Fault = Fault} [] none = All-nil (λ (earlier : Check Fault). earlier.holds ≡ true)
hold-from_none {Fault = Fault} (first ∷ checks) none =
    let all : Hold (check first.holds first.fault ∷ checks) = record { none = none } in
    All-cons (λ (earlier : Check Fault). earlier.holds ≡ true) first checks (held first.holds first.fault checks all)
    (hold-from_none checks (others first.holds first.fault checks all).none)

pub none-from_hold : {Fault : Type 0} (checks : List (Check Fault)) → All (λ (earlier : Check Fault). earlier.holds ≡ true) checks → first_fault checks ≡ None
none-from_hold {Fault = Fault} [] hold = refl
none-from_hold {Fault = Fault} (first ∷ checks) hold =
    cond-true first.holds (first_fault checks) (Some first.fault) (All-head (λ (earlier : Check Fault). earlier.holds ≡ true) first checks hold)
    ∙ none-from_hold checks (All-tail (λ (earlier : Check Fault). earlier.holds ≡ true) first checks hold)

-- the first fault is that of a check that fails, behind others that hold
pub first-from_fault : {Fault : Type 0} (checks : List (Check Fault)) (fault : Fault) → first_fault checks ≡ Some fault → IsFirst checks fault
first-from_fault {Fault = Fault} [] fault found = absurd (no_fault fault found)
first-from_fault {Fault = Fault} (first ∷ checks) fault found = elim (cases_Bool first.holds) [
  | inl holds ↦ (let later = first-from_fault checks fault (sym (cond-true first.holds (first_fault checks) (Some first.fault) holds) ∙ found) in
      record {
        before = first ∷ later.before;
        after = later.after;
        parts = ap (λ list. first ∷ list) later.parts;
        hold = All-cons (λ (earlier : Check Fault). earlier.holds ≡ true) first later.before holds later.hold;
      })
  | inr fails ↦ (let same : first.fault ≡ fault
      = some_same first.fault fault (sym (cond-false first.holds (first_fault checks) (Some first.fault) fails) ∙ found) in
      record { before = []; after = checks; parts = λ i. check (fails i) (same i) ∷ checks; hold = All-nil (λ (earlier : Check Fault). earlier.holds ≡ true) })
]

-- and such a check's fault is the first one
pub fault-from_first : {Fault : Type 0} (checks : List (Check Fault)) (fault : Fault) → IsFirst checks fault → first_fault checks ≡ Some fault
fault-from_first {Fault = Fault} checks fault is =
    ap first_fault is.parts ∙ first_fault-append is.before (check false fault ∷ is.after) (none-from_hold is.before is.hold)
