use Rattle.strip_text.proofs.FirstFault.{first-from_fault, fault-from_first, hold-from_none, none-from_hold}
use Rattle.strip_text.proofs.laws.the_first_fault_is_the_first.Goals as goal

pub returns-clause-first : goal.returns-clause-first
returns-clause-first g c = λ checks fault. (first-from_fault checks fault, fault-from_first checks fault)

pub returns-clause-none : goal.returns-clause-none
returns-clause-none g c = λ checks. (hold-from_none checks, none-from_hold checks)
