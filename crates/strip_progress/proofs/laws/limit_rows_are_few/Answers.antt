use Rattle.strip_progress.proofs.RowsDue.{few_of_limits}
use Rattle.strip_progress.proofs.laws.limit_rows_are_few.Goals as goal

pub returns : goal.returns
returns c = few_of_limits
