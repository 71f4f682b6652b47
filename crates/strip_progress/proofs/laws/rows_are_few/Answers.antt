use Rattle.strip_progress.proofs.RowsDue.{at_most_forty, each_of_few, last_of_all}
use Rattle.strip_progress.proofs.laws.rows_are_few.Goals as goal

pub returns : goal.returns
returns c = record {
  each = each_of_few;
  last = last_of_all;
  few = at_most_forty;
}
