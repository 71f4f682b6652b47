use Rattle.strip_table.proofs.Afterwards.{other_homes}
use Rattle.strip_table.proofs.laws.other_buckets_stay.Goals as goal

pub returns : goal.returns
returns c = other_homes
