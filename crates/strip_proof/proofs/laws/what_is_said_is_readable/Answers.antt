use Rattle.strip_proof.proofs.read.Said.{said-readable}
use Rattle.strip_proof.proofs.laws.what_is_said_is_readable.Goals as goal

pub returns : goal.returns
returns c = said-readable
