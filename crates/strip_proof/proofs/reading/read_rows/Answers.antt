use Rattle.std.proofs.Common.{◌∙◌, true, false, sym}
use Rattle.strip_proof.proofs.read.Whole.{in_format, makes-same}
use Rattle.strip_proof.proofs.reading.read_rows.Goals as goal

pub returns-then-is_second-clause-makes : goal.returns-then-is_second-clause-makes
returns-then-is_second-clause-makes c =
    makes-same _ _ c.read_second.result
    (in_format c.args.inst.now c.args.rows.now.left c.read_due.new.rows.left c.read_due.new.row true c.in_ok-read_due.ensures.found
    (sym c.is_second.ensures ∙ c.if-is_second.true)) c.read_second.ensures.makes

pub returns-clause-makes : goal.returns-clause-makes
returns-clause-makes c =
    makes-same _ _ c.read_first.result
    (in_format c.args.inst.now c.args.rows.now.left c.read_due.new.rows.left c.read_due.new.row false c.in_ok-read_due.ensures.found
    (sym c.is_second.ensures ∙ c.if-is_second.false)) c.read_first.ensures.makes
