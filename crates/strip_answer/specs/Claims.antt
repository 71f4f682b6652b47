-- What a program claims of its jobs, and what is due for words and files.
use Rattle.std.specs.Prelude.{◌≡◌, ◌⊎◌, ℕ, List, codes, None}
use Rattle.strip_io.specs.Files.{FilesData}
use Rattle.strip_text.specs.Told.{ToldData, told_alone}
use Rattle.strip_answer.specs.declared.status.Status.{Status}
use Rattle.strip_answer.specs.declared.status.Status.TheVariants.{NoJob}
use Rattle.strip_answer.specs.Rows.{error_row}

-- the jobs of a program: which words name one, which files it asks for, by what files tell, which text is due for it with
-- which status, by the files before and after; whether it can be done with what its files tell, and how it may end then; and
-- whether it can't, as this status says
pub record Claims (Job : Type 0) : Type 1 where
  pub Names : List (List ℕ) → Job → Type 0
  pub Asks : Job → FilesData → List ℕ → Type 0
  pub Due : Job → FilesData → FilesData → Status → List ℕ → Type 0
  pub Fit : Job → FilesData → Type 0
  pub FitStatus : Job → Status → Type 0
  pub Unfit : Job → FilesData → Status → Type 0

-- the words name no job
abbrev pub NameNone : {Job : Type 0} → Claims Job → List (List ℕ) → Type 0
NameNone {Job} claims words = (job : Job) → ¬ claims.Names words job

-- the words name a job that asks for this file, by what the files tell
abbrev pub AsksFor : {Job : Type 0} → Claims Job → List (List ℕ) → FilesData → List ℕ → Type 0
AsksFor {Job} claims words files file = (job : Job) × claims.Names words job × claims.Asks job files file

-- what is told of words that name no job
abbrev pub no_job_told : ToldData
no_job_told = told_alone (codes "Words") None None

-- what is due for the words: they name no job, or a job that they name asks for it
abbrev pub IsDue : {Job : Type 0} → Claims Job → List (List ℕ) → FilesData → FilesData → Status → List ℕ → Type 0
IsDue {Job} claims words before after status printed =
    (NameNone claims words × (status ≡ NoJob) × (printed ≡ error_row no_job_told))
    ⊎ ((job : Job) × claims.Names words job × claims.Due job before after status printed)
