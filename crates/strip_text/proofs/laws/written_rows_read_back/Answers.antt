use Rattle.strip_text.proofs.Back.{rows_of-written}
use Rattle.strip_text.proofs.laws.written_rows_read_back.Goals as goal

pub returns : goal.returns
returns c = rows_of-written
