use Rattle.strip_proof.proofs.Texts.{begins}
use Rattle.strip_proof.proofs.laws.texts_begin_with_their_format.Goals as goal

pub returns : goal.returns
returns c = begins
