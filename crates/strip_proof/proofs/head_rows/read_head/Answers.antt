use Rattle.strip_text.proofs.Making.{makes-handed_on}
use Rattle.std.proofs.Common.{◌∷◌, drop, refl}
use Rattle.strip_proof.specs.Faults.{plan_row_checks}
use Rattle.strip_proof.proofs.read.Parts.{bound-fault, held-fault, no-fault, order-fault}
use Rattle.strip_proof.proofs.head_rows.read_head.Goals as goal

pub returns-in_err-bound-clause-makes : goal.returns-in_err-bound-clause-makes
returns-in_err-bound-clause-makes c =
    let inst = c.args.inst.now in
    let row = c.args.row.now in
    let left = c.args.rows.now.left in
    let left1 = c.read_amount.new.rows.left in
    let fault = c.in_err-bound.field-0.0 in
    makes-handed_on (plan_row_checks inst c.args.first (row ∷ left)) _ fault c.from_residual-in_err-bound.ensures.1
    (bound-fault inst c.args.first row left left1 (drop 1 left1) (drop 1 (drop 1 left1))
    c.in_ok-cost.ensures.left refl refl fault
    c.in_ok-status.ensures.makes c.in_ok-cost.ensures.makes c.in_err-bound.ensures.makes)

pub returns-in_err-held-clause-makes : goal.returns-in_err-held-clause-makes
returns-in_err-held-clause-makes c =
    let inst = c.args.inst.now in
    let row = c.args.row.now in
    let left = c.args.rows.now.left in
    let fault = c.in_err-held.field-0.0 in
    makes-handed_on (plan_row_checks inst c.args.first (row ∷ left)) _ fault c.from_residual-in_err-held.ensures.1
    (held-fault inst c.args.first row left c.read_amount.new.rows.left c.read_amount-2.new.rows.left (drop 1 c.read_amount-2.new.rows.left)
    c.in_ok-cost.ensures.left c.in_ok-bound.ensures.left refl fault
    c.in_ok-status.ensures.makes c.in_ok-cost.ensures.makes c.in_ok-bound.ensures.makes c.in_err-held.ensures.makes)

pub returns-in_err-order-clause-makes : goal.returns-in_err-order-clause-makes
returns-in_err-order-clause-makes c =
    let inst = c.args.inst.now in
    let row = c.args.row.now in
    let left = c.args.rows.now.left in
    let fault = c.in_err-order.field-0.0 in
    makes-handed_on (plan_row_checks inst c.args.first (row ∷ left)) _ fault c.from_residual-in_err-order.ensures.1
    (order-fault inst c.args.first row left c.read_amount.new.rows.left c.read_amount-2.new.rows.left c.read_amount-3.new.rows.left
    c.in_ok-cost.ensures.left c.in_ok-bound.ensures.left c.in_ok-held.ensures.left fault
    c.in_ok-status.ensures.makes c.in_ok-cost.ensures.makes c.in_ok-bound.ensures.makes c.in_ok-held.ensures.makes c.in_err-order.ensures.makes)

pub returns-clause-makes : goal.returns-clause-makes
returns-clause-makes c =
    no-fault c.args.inst.now c.args.first c.args.row.now c.args.rows.now.left c.read_amount.new.rows.left c.read_amount-2.new.rows.left c.read_amount-3.new.rows.left
    c.in_ok-cost.ensures.left c.in_ok-bound.ensures.left c.in_ok-held.ensures.left
    c.in_ok-status.ensures.makes c.in_ok-cost.ensures.makes c.in_ok-bound.ensures.makes c.in_ok-held.ensures.makes c.in_ok-order.ensures.makes
