use Rattle.strip_model.proofs.Counts.{sum-counts, sum-order}
use Rattle.strip_model.proofs.laws.sums_are_by_counts.Goals as goal

pub returns : goal.returns
returns c = record { counts = sum-counts; order = sum-order }
