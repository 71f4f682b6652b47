-- What a reader answers from what it finds of the rows.
use Rattle.std.proofs.Common.{◌≡◌, ℕ, Bool, List, ◌∷◌, Result, Ok, Err, IfOk, sym, ap, ◌∙◌, subst, inl, inr, if◌then◌else◌, codes}
use Rattle.std.specs.Str.{bytes_eq}
use Rattle.strip_model.specs.Data.{InstanceData}
use Rattle.strip_text.specs.Rows.{Row, field_of, rows_of}
use Rattle.strip_text.specs.Checks.{first_fault}
use Rattle.strip_proof.specs.declared.plan.Plan.{Plan}
use Rattle.strip_proof.specs.declared.fault.PlanFault.{PlanFault}
use Rattle.strip_proof.specs.Plan.{plan_data}
use Rattle.strip_proof.specs.Faults.{Checks, Makes}
use Rattle.strip_proof.specs.Format.{checks_in, first_format, plan_checks, second_format}
use Rattle.strip_proof.specs.Text.{PlanRead, plan_of, reading_of}

-- the format of rows, of which this is the first, by the test of its first word
pub in_format : (inst : InstanceData) (rows left : List Row) (row : Row) (second : Bool) → rows ≡ row ∷ left → bytes_eq (field_of row 0) (codes "plan") ≡ second
    → plan_checks inst rows ≡ checks_in inst (row ∷ left) (if second then second_format (row ∷ left) else first_format (row ∷ left))
in_format inst rows left row second here is =
    ap (plan_checks inst) here
    ∙ ap (λ (test : Bool). checks_in inst (row ∷ left) (if test then second_format (row ∷ left) else first_format (row ∷ left))) is

pub makes-same : {T : Type 0} (these those : Checks) (made : Result T PlanFault) → these ≡ those → Makes those made → Makes these made
makes-same these those made same makes = subst (λ (checks : Checks). Makes checks made) (sym same) makes

-- what all rows of a text make is what the text says
pub read_as : (inst : InstanceData) (text : List ℕ) (rows : List Row) (made : Result Plan PlanFault) → rows ≡ rows_of text → Makes (plan_checks inst rows) made
    → IfOk made (λ plan. plan_data plan ≡ plan_of inst rows) → PlanRead inst text made
read_as inst text rows (Ok plan) are none is =
    subst (λ (list : List Row). reading_of inst list (first_fault (plan_checks inst list)) ≡ Ok (plan_data plan)) are
    (ap (reading_of inst rows) none ∙ ap Ok (sym is))
read_as inst text rows (Err fault) are (inl memory) is = inl memory
read_as inst text rows (Err fault) are (inr found) is =
    inr (subst (λ (list : List Row). reading_of inst list (first_fault (plan_checks inst list)) ≡ Err fault) are (ap (reading_of inst rows) found))
