use Rattle.std.proofs.Common.{ap}
use Rattle.strip_text.specs.Rows.{RowsData}
use Rattle.strip_proof.proofs.read.Whole.{read_as}
use Rattle.strip_proof.proofs.read.Said.{read-readable}
use Rattle.strip_proof.proofs.reading.read_plan.Goals as goal

pub returns-clause-read : goal.returns-clause-read
returns-clause-read c =
    read_as c.args.inst.now c.args.text.now c.new-rows.result.left c.read_rows.result (ap (λ (rows : RowsData). rows.left) c.new-rows.ensures)
    c.read_rows.ensures.makes c.read_rows.ensures.plan

pub returns-clause-fits : goal.returns-clause-fits
returns-clause-fits c = read-readable c.args.inst.now c.new-rows.result.left c.read_rows.result c.read_rows.ensures.makes c.read_rows.ensures.plan
