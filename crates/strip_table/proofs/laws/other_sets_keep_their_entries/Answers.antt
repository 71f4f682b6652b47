use Rattle.strip_table.proofs.Afterwards.{others_after}
use Rattle.strip_table.proofs.laws.other_sets_keep_their_entries.Goals as goal

pub returns : goal.returns
returns c = λ buckets number bucket after known answer set is puts apart. others_after bucket after known answer set is.once is.few puts apart
