-- A fault that is handed on.
use Rattle.std.proofs.Common.{◌≡◌, Result, Ok, Err, IsErrAnd}
use Rattle.strip_instance.specs.declared.fault.InstanceFault.{InstanceFault}
use Rattle.strip_instance.specs.Fault.{fault_data}
use Rattle.strip_instance.specs.Checks.{Checks, Makes}
use Rattle.strip_instance.proofs.read.Whole.{Tells}

-- what a call answers that hands on a fault
pub handed_on : {T : Type 0} (checks : Checks) (made : Result T InstanceFault) (fault : InstanceFault) → IsErrAnd made (λ other. other ≡ fault)
    → Tells (fault_data fault) checks → Makes checks made
handed_on checks (Ok value) fault handed tells = absurd handed
handed_on checks (Err other) fault handed tells = rw handed tells
