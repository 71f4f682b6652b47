use Rattle.std.proofs.Common.{◌≡◌, List, Option, None, Some, Ok, refl, subst}
use Rattle.strip_text.specs.Rows.{Row, rows_of}
use Rattle.strip_text.specs.Checks.{first_fault}
use Rattle.strip_model.specs.Data.{InstanceData, IsInstance}
use Rattle.strip_instance.specs.Fault.{FaultData}
use Rattle.strip_instance.specs.Parts.{parts_of}
use Rattle.strip_instance.specs.Faults.{all_checks}
use Rattle.strip_instance.specs.Text.{instance_of, reading_of}
use Rattle.strip_instance.proofs.said.Within.{instance-limits}
use Rattle.strip_instance.proofs.laws.what_is_said_keeps_the_limits.Goals as goal

-- what is read as an instance is the rows' one, and these have no fault
keeps_limits : (rows : List Row) (inst : InstanceData) (found : Option FaultData) → first_fault (all_checks rows) ≡ found
    → reading_of rows found ≡ Ok inst → IsInstance inst
keeps_limits rows inst None none same =
    let its : instance_of (parts_of rows) ≡ inst = cc in
    subst IsInstance its (instance-limits rows (record { none = none }))
keeps_limits rows inst (Some fault) found same = cc

pub returns : goal.returns
returns c = λ text inst. keeps_limits (rows_of text) inst (first_fault (all_checks (rows_of text))) refl
