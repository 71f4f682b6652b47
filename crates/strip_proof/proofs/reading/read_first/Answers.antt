use Rattle.std.proofs.Common.{◌∷◌}
use Rattle.strip_text.proofs.Making.{makes-handed_on}
use Rattle.strip_proof.specs.Format.{checks_in, first_format}
use Rattle.strip_proof.proofs.read.Parts.{first-lines-fault, first-no-fault}
use Rattle.strip_proof.proofs.reading.read_first.Goals as goal

pub returns-in_err-lines-clause-makes : goal.returns-in_err-lines-clause-makes
returns-in_err-lines-clause-makes c =
    let inst = c.args.inst.now in
    let rows = c.args.row.now ∷ c.args.rows.now.left in
    let fault = c.in_err-lines.field-0.0 in
    makes-handed_on (checks_in inst rows (first_format rows)) _ fault c.from_residual-in_err-lines.ensures.1
    (first-lines-fault inst c.args.row.now c.args.rows.now.left c.read_head.new.rows.left c.in_ok-head.ensures.left fault c.in_ok-head.ensures.makes c.in_err-lines.ensures.makes)

pub returns-clause-makes : goal.returns-clause-makes
returns-clause-makes c =
    first-no-fault c.args.inst.now c.args.row.now c.args.rows.now.left c.read_head.new.rows.left c.in_ok-head.ensures.left c.in_ok-head.ensures.makes c.in_ok-lines.ensures.makes
