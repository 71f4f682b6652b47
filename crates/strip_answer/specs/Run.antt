-- The record of a run, and what each status says of it.
use Rattle.std.specs.Prelude.{◌≡◌, ℕ, ◌≤◌, List}
use Rattle.strip_io.specs.Counts.{ReadFailed, Rose}
use Rattle.strip_io.specs.Files.{FilesData}
use Rattle.strip_io.specs.Sink.{SinkData, Took, TookFront}
use Rattle.strip_answer.specs.declared.status.Status.{Status}
use Rattle.strip_answer.specs.declared.status.Status.TheVariants.{ReadFault, WriteFault, OutOfMemory}

-- a run: the words that the program is given, and the files and the sink before and after
pub record RunData : Type 0 where
  pub words : List (List ℕ)
  pub files_before : FilesData
  pub files_after : FilesData
  pub sink_before : SinkData
  pub sink_after : SinkData

abbrev pub run_data : List (List ℕ) → FilesData → FilesData → SinkData → SinkData → RunData
run_data words files_before files_after sink_before sink_after = record {
  words = words;
  files_before = files_before;
  files_after = files_after;
  sink_before = sink_before;
  sink_after = sink_after;
}

-- a read of a file that is asked for failed, and a write
abbrev pub HasReadFault : FilesData → FilesData → (List ℕ → Type 0) → Type 0
HasReadFault before after Asked = (file : List ℕ) × Asked file × ReadFailed file before.holds before.faults after.faults

abbrev pub HasWriteFault : SinkData → SinkData → Type 0
HasWriteFault before after = Rose before.faults after.faults

-- one text that has P was printed, all of it; a proper prefix of one; or nothing
abbrev pub Prints : RunData → (List ℕ → Type 0) → Type 0
Prints run P = (printed : List ℕ) × P printed × Took run.sink_before.taken run.sink_after.taken printed

abbrev pub PrintsFront : RunData → (List ℕ → Type 0) → Type 0
PrintsFront run P = (printed : List ℕ) × P printed × TookFront run.sink_before.taken run.sink_after.taken printed

abbrev pub PrintsNothing : RunData → Type 0
PrintsNothing run = run.sink_after.taken ≡ run.sink_before.taken

-- what a status says, where these are the files that are asked for, and Due says which text is due with which status
abbrev pub IsOutcome : RunData → (List ℕ → Type 0) → (Status → List ℕ → Type 0) → Status → Type 0
IsOutcome run Asked Due ReadFault = HasReadFault run.files_before run.files_after Asked × PrintsNothing run
IsOutcome run Asked Due WriteFault = HasWriteFault run.sink_before run.sink_after
    × PrintsFront run (λ printed. (status : Status) × Due status printed)
IsOutcome run Asked Due OutOfMemory = PrintsNothing run
IsOutcome run Asked Due status = Prints run (Due status)

-- what stays of the files, where these are asked for, and a read of theirs failed or not
pub record FilesStay (before after : FilesData) (Asked : List ℕ → Type 0) (failed : Type 0) : Type 0 where
  pub held : after.holds ≡ before.holds
  pub told : after.bytes ≡ before.bytes
  pub later : (name : List ℕ) → before.faults name ≤ after.faults name
  pub others : (name : List ℕ) → ¬ Asked name → after.faults name ≡ before.faults name
  pub unfailed : ¬ failed → after.faults ≡ before.faults
  pub came_others : (name : List ℕ) → ¬ Asked name → after.came name ≡ before.came name

-- and of the sink
pub record SinkStays (before after : SinkData) (failed : Type 0) : Type 0 where
  pub later : before.faults ≤ after.faults
  pub unfailed : ¬ failed → after.faults ≡ before.faults
