use Rattle.strip_instance.proofs.said.NeverMemory.{memory-never_said}
use Rattle.strip_instance.proofs.laws.want_of_memory_is_never_said.Goals as goal

pub returns : goal.returns
returns c = memory-never_said
