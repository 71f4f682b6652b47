-- Checks of an instance text.
use Rattle.std.specs.Prelude.{◌≡◌, ◌⊎◌, List, None, Some, Result, Ok, Err}
use Rattle.strip_text.specs.Checks.{Check, first_fault}
use Rattle.strip_instance.specs.declared.fault.InstanceFault.{InstanceFault}
use Rattle.strip_instance.specs.Fault.{FaultData, Memory, fault_data}

abbrev pub Checks : Type 0
Checks = List (Check FaultData)

-- what a call answers that makes these checks: no fault where all hold, else the first one's, or want of memory
abbrev pub Makes : {T : Type 0} → Checks → Result T InstanceFault → Type 0
Makes checks (Ok _) = first_fault checks ≡ None
Makes checks (Err fault) = (fault_data fault ≡ Memory) ⊎ (first_fault checks ≡ Some (fault_data fault))
