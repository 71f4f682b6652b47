use Rattle.std.proofs.Common.{◌≡◌, ℕ, List, Option, None, Some, Ok, refl, subst}
use Rattle.strip_text.specs.Rows.{rows_of}
use Rattle.strip_text.specs.Checks.{first_fault}
use Rattle.strip_text.proofs.Trimmed.{trimmed-rows_of}
use Rattle.strip_model.specs.Data.{InstanceData}
use Rattle.strip_instance.specs.Fault.{FaultData}
use Rattle.strip_instance.specs.Parts.{parts_of}
use Rattle.strip_instance.specs.Faults.{all_checks}
use Rattle.strip_instance.specs.Text.{HasReadableNames, instance_of, reading_of}
use Rattle.strip_instance.proofs.said.SaidNames.{instance-readable}
use Rattle.strip_instance.proofs.laws.what_is_said_has_readable_names.Goals as goal

-- what is read as an instance is the rows' one, and these have no fault
has_readable_names : (text : List ℕ) (inst : InstanceData) (found : Option FaultData)
    → first_fault (all_checks (rows_of text)) ≡ found → reading_of (rows_of text) found ≡ Ok inst → HasReadableNames inst
has_readable_names text inst None none same =
    let its : instance_of (parts_of (rows_of text)) ≡ inst = cc in
    subst HasReadableNames its (instance-readable (rows_of text) (trimmed-rows_of text) (record { none = none }))
has_readable_names text inst (Some fault) found same = cc

pub returns : goal.returns
returns c = λ text inst. has_readable_names text inst (first_fault (all_checks (rows_of text))) refl
