-- The faults of instance texts as plain data: a list of scenes as their numbers, and names as their bytes.
use Rattle.std.specs.Prelude.{ℕ, List, map}
use Rattle.std.specs.String.{string_bytes}
use Rattle.strip_instance.specs.declared.fault.InstanceFault.{InstanceFault}
use Rattle.strip_instance.specs.declared.fault.InstanceFault.TheVariants as fault

-- the fault's kind, with its row, its column or both; a cycle has its row, its scenes and their names
pub data FaultData : Type 0 where
  Empty : FaultData
  BadHeader : FaultData
  NoRateRow : FaultData
  Width : ℕ → FaultData
  BadName : ℕ → ℕ → FaultData
  DuplicateScene : ℕ → FaultData
  DuplicateActor : ℕ → FaultData
  BadDays : ℕ → FaultData
  BadRate : ℕ → FaultData
  BadHold : ℕ → FaultData
  BadMark : ℕ → ℕ → FaultData
  BadBefore : ℕ → FaultData
  Cycle : ℕ → List ℕ → List (List ℕ) → FaultData
  NoScene : FaultData
  TooManyScenes : FaultData
  TooManyActors : FaultData
  NotUtf8 : ℕ → ℕ → FaultData
  Memory : FaultData

abbrev pub fault_data : InstanceFault → FaultData
fault_data fault.Empty = Empty
fault_data fault.BadHeader = BadHeader
fault_data fault.NoRateRow = NoRateRow
fault_data (fault.Width row) = Width row
fault_data (fault.BadName row col) = BadName row col
fault_data (fault.DuplicateScene row) = DuplicateScene row
fault_data (fault.DuplicateActor col) = DuplicateActor col
fault_data (fault.BadDays row) = BadDays row
fault_data (fault.BadRate col) = BadRate col
fault_data (fault.BadHold col) = BadHold col
fault_data (fault.BadMark row col) = BadMark row col
fault_data (fault.BadBefore row) = BadBefore row
fault_data (fault.Cycle row scenes names) = Cycle row scenes.items (map string_bytes names.items)
fault_data fault.NoScene = NoScene
fault_data fault.TooManyScenes = TooManyScenes
fault_data fault.TooManyActors = TooManyActors
fault_data (fault.NotUtf8 row col) = NotUtf8 row col
fault_data fault.Memory = Memory
