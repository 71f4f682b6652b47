use Rattle.strip_reports.proofs.Broken.{broken}
use Rattle.strip_reports.proofs.laws.warnings_are_of_broken_pairs.Goals as goal

pub returns : goal.returns
returns c = broken
