-- Why an instance wasn't reduced, as why its plan wasn't checked.
use Rattle.strip_reduce.specs.declared.fault.ReduceFault.{ReduceFault}
use Rattle.strip_reduce.specs.declared.fault.ReduceFault.TheVariants.{TooManyClasses as NotReduced, Memory as NoMemory}
use Rattle.strip_check.specs.declared.fault.CheckFault.{CheckFault}
use Rattle.strip_check.specs.declared.fault.CheckFault.TheVariants.{TooManyClasses, Memory}

abbrev pub fault_of : ReduceFault → CheckFault
fault_of (NotReduced count) = TooManyClasses count
fault_of NoMemory = Memory
