use Rattle.strip_proof.proofs.Values.{length-hex_digits, value-hex_digits, same_line}
use Rattle.strip_proof.proofs.laws.line_rows_tell_their_lines.Goals as goal

pub returns-clause-count : goal.returns-clause-count
returns-clause-count c = length-hex_digits 16

pub returns-clause-value : goal.returns-clause-value
returns-clause-value c = value-hex_digits 16

pub returns-clause-apart : goal.returns-clause-apart
returns-clause-apart c = same_line
