-- Exit statuses as numbers.
use Rattle.std.specs.Prelude.{◌≡◌, ℕ}
use Rattle.strip_answer.specs.declared.status.Status.{Status}
use Rattle.strip_answer.specs.declared.status.Status.TheVariants.{Done, NoJob, Bounded, NotAccepted, BadInstance, BadPlan, ReadFault, WriteFault, OutOfMemory}

abbrev pub code_of : Status → ℕ
code_of Done = 0
code_of NoJob = 2
code_of Bounded = 3
code_of NotAccepted = 4
code_of BadInstance = 5
code_of BadPlan = 6
code_of ReadFault = 7
code_of WriteFault = 8
code_of OutOfMemory = 9

-- there is no other exit status
abbrev pub IsExitStatus : ℕ → Type 0
IsExitStatus code = (status : Status) × (code ≡ code_of status)
