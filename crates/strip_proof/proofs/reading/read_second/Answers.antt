use Rattle.std.proofs.Common.{◌∷◌, drop, refl}
use Rattle.strip_text.proofs.Making.{makes-handed_on}
use Rattle.strip_proof.specs.Plan.{plan_data}
use Rattle.strip_proof.specs.Format.{checks_in, second_format}
use Rattle.strip_proof.proofs.read.Parts.{counts-read-fault, five-read-fault, lines-read-fault, second-no-fault, second-plan}
use Rattle.strip_proof.proofs.reading.read_second.Goals as goal

pub returns-in_err-head-clause-makes : goal.returns-in_err-head-clause-makes
returns-in_err-head-clause-makes c =
    let rows = c.args.row.now ∷ c.args.rows.now.left in
    let fault = c.in_err-head.field-0.0 in
    makes-handed_on (checks_in c.args.inst.now rows (second_format rows)) _ fault c.from_residual-in_err-head.ensures.1
    (five-read-fault c.args.inst.now c.args.row.now c.args.rows.now.left c.read_front.new.rows.left c.in_ok-kind.ensures.left
    c.read_due.new.row c.read_due.new.rows.left (drop 4 c.read_due.new.rows.left) c.in_ok-read_due.ensures.found refl fault
    c.in_ok-kind.ensures.makes c.in_err-head.ensures.makes)

pub returns-in_err-count-clause-makes : goal.returns-in_err-count-clause-makes
returns-in_err-count-clause-makes c =
    let rows = c.args.row.now ∷ c.args.rows.now.left in
    let fault = c.in_err-count.field-0.0 in
    makes-handed_on (checks_in c.args.inst.now rows (second_format rows)) _ fault c.from_residual-in_err-count.ensures.1
    (counts-read-fault c.args.inst.now c.args.row.now c.args.rows.now.left c.read_front.new.rows.left c.in_ok-kind.ensures.left
    c.read_due.new.row c.read_due.new.rows.left c.read_head.new.rows.left c.in_ok-read_due.ensures.found c.in_ok-head.ensures.left fault
    c.in_ok-kind.ensures.makes c.in_ok-head.ensures.makes c.in_err-count.ensures.makes)

pub returns-in_err-lines-clause-makes : goal.returns-in_err-lines-clause-makes
returns-in_err-lines-clause-makes c =
    let rows = c.args.row.now ∷ c.args.rows.now.left in
    let fault = c.in_err-lines.field-0.0 in
    makes-handed_on (checks_in c.args.inst.now rows (second_format rows)) _ fault c.from_residual-in_err-lines.ensures.1
    (lines-read-fault c.args.inst.now c.args.row.now c.args.rows.now.left c.read_front.new.rows.left c.in_ok-kind.ensures.left
    c.read_due.new.row c.read_due.new.rows.left c.read_head.new.rows.left c.in_ok-read_due.ensures.found c.in_ok-head.ensures.left
    c.in_ok-count.count c.read_count.new.rows.left c.in_ok-count.ensures.count c.in_ok-count.ensures.left fault
    c.in_ok-kind.ensures.makes c.in_ok-head.ensures.makes c.in_ok-count.ensures.makes c.in_err-lines.ensures.makes)

pub returns-clause-makes : goal.returns-clause-makes
returns-clause-makes c =
    second-no-fault c.args.inst.now c.args.row.now c.args.rows.now.left c.read_front.new.rows.left c.in_ok-kind.ensures.left
    c.read_due.new.row c.read_due.new.rows.left c.read_head.new.rows.left c.in_ok-read_due.ensures.found c.in_ok-head.ensures.left
    c.in_ok-count.count c.read_count.new.rows.left c.in_ok-count.ensures.count c.in_ok-count.ensures.left
    c.in_ok-kind.ensures.makes c.in_ok-head.ensures.makes c.in_ok-count.ensures.makes c.in_ok-lines.ensures.makes

pub returns-clause-plan : goal.returns-clause-plan
returns-clause-plan c =
    second-plan c.args.inst.now c.args.row.now c.args.rows.now.left c.read_front.new.rows.left c.in_ok-kind.ensures.left
    c.read_due.new.row c.read_due.new.rows.left c.read_head.new.rows.left c.in_ok-read_due.ensures.found c.in_ok-head.ensures.left
    c.in_ok-count.count c.read_count.new.rows.left c.in_ok-count.ensures.count c.in_ok-count.ensures.left
    c.in_ok-kind.kind (plan_data c.in_ok-head.head) c.in_ok-lines.lines.items c.in_ok-kind.ensures.kind c.in_ok-head.ensures.plan c.in_ok-lines.ensures.lines
