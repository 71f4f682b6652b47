use Rattle.strip_proof.proofs.read.NeverMemory.{memory-never_said}
use Rattle.strip_proof.proofs.laws.want_of_memory_is_never_said.Goals as goal

pub returns : goal.returns
returns c = memory-never_said
