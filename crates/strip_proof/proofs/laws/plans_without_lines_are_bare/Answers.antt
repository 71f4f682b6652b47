use Rattle.strip_proof.proofs.Texts.{without_lines}
use Rattle.strip_proof.proofs.laws.plans_without_lines_are_bare.Goals as goal

pub returns : goal.returns
returns c = without_lines
