use Rattle.strip_table.proofs.Afterwards.{found_iff}
use Rattle.strip_table.proofs.laws.the_entry_of_a_set_is_found.Goals as goal

pub returns : goal.returns
returns c = λ buckets number bucket set entry is. found_iff bucket set entry is.once
