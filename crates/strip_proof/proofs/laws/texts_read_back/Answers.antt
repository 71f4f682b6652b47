use Rattle.std.proofs.Common.{ap, ◌∙◌, map, length, ◌++◌}
use Rattle.strip_text.specs.Rows.{rows_of}
use Rattle.strip_text.proofs.Back.{rows_of-written}
use Rattle.strip_proof.specs.Rows.{head_rows, line_row}
use Rattle.strip_proof.proofs.Texts.{by_rows, is_writable}
use Rattle.strip_proof.proofs.laws.texts_read_back.Goals as goal

pub returns-clause-rows : goal.returns-clause-rows
returns-clause-rows c = by_rows

pub returns-clause-back : goal.returns-clause-back
returns-clause-back c = λ inst plan. ap rows_of (by_rows inst plan) ∙ rows_of-written (head_rows inst plan (length plan.lines) ++ map line_row plan.lines) (is_writable inst plan)
