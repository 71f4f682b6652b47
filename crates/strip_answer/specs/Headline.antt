-- What a program claims of a run.
use Rattle.std.specs.Prelude.{◌≡◌, ℕ, ◌⊎◌, true, List}
use Rattle.strip_io.specs.Counts.{Rose}
use Rattle.strip_answer.specs.declared.status.Status.{Status}
use Rattle.strip_answer.specs.declared.status.Status.TheVariants.{NoJob, ReadFault, WriteFault, OutOfMemory}
use Rattle.strip_answer.specs.Status.{code_of}
use Rattle.strip_answer.specs.Run.{RunData, IsOutcome, FilesStay, SinkStays, HasWriteFault}
use Rattle.strip_answer.specs.Claims.{Claims, AsksFor, IsDue, NameNone}

-- each file of the job is held, and no read of it failed
abbrev pub IsRead : {Job : Type 0} → Claims Job → RunData → Job → Type 0
IsRead claims run job = (file : List ℕ) → claims.Asks job run.files_before file
    → (run.files_before.holds file ≡ true) × ¬ Rose (run.files_before.faults file) (run.files_after.faults file)

pub record IsHeadline {Job : Type 0} (claims : Claims Job) (run : RunData) (code : ℕ) : Type 0 where
  -- the exit status, and what was printed and why
  pub status : Status
  pub exit_status : code ≡ code_of status
  pub outcome : IsOutcome run (AsksFor claims run.words run.files_before)
      (IsDue claims run.words run.files_before run.files_after) status
  pub no_job : status ≡ NoJob → NameNone claims run.words
  -- which status comes: where the words name no job, where the job can't be done with its files, and where it can
  -- and nothing fails
  pub no_job_where : NameNone claims run.words → (status ≡ NoJob) ⊎ (status ≡ WriteFault) ⊎ (status ≡ OutOfMemory)
  pub refused_where : (job : Job) (why : Status) → claims.Names run.words job → claims.Unfit job run.files_before why
      → (status ≡ why) ⊎ ((status ≡ ReadFault) × ¬ IsRead claims run job) ⊎ (status ≡ WriteFault) ⊎ (status ≡ OutOfMemory)
  pub complete : (job : Job) → claims.Names run.words job → claims.Fit job run.files_before
      → IsRead claims run job → ¬ HasWriteFault run.sink_before run.sink_after
      → claims.FitStatus job status ⊎ (status ≡ OutOfMemory)
  -- what stays, and which counts can rise: those of the job's files where the status is ReadFault, the sink's where
  -- it is WriteFault
  pub files : FilesStay run.files_before run.files_after (AsksFor claims run.words run.files_before) (status ≡ ReadFault)
  pub sink : SinkStays run.sink_before run.sink_after (status ≡ WriteFault)
