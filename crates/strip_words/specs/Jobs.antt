-- The jobs that words name, a line for each command.
use Rattle.std.specs.Prelude.{List, codes}
use Rattle.strip_words.specs.Words.{Word}
use Rattle.strip_words.specs.Solve.{SolveData, NameSolve}
use Rattle.strip_words.specs.Films.{NameFilmFile}
use Rattle.strip_words.specs.Plans.{PlanFilesData, NamePlanFiles}
use Rattle.strip_words.specs.Gen.{GenData, NameGen, TrialData, NameTrial}

pub data JobData : Type 0 where
  Solve : SolveData → JobData
  Price : Word → JobData
  Arrange : PlanFilesData → JobData
  Check : PlanFilesData → JobData
  Convert : PlanFilesData → JobData
  Dood : PlanFilesData → JobData
  Sheet : PlanFilesData → JobData
  Board : PlanFilesData → JobData
  Gen : GenData → JobData
  Trial : TrialData → JobData

-- the words name this job
abbrev pub NameJob : List Word → JobData → Type 0
NameJob words (Solve job) = NameSolve words job
NameJob words (Price file) = NameFilmFile (codes "price") words file
NameJob words (Arrange files) = NamePlanFiles (codes "arrange") words files
NameJob words (Check files) = NamePlanFiles (codes "check") words files
NameJob words (Convert files) = NamePlanFiles (codes "convert") words files
NameJob words (Dood files) = NamePlanFiles (codes "dood") words files
NameJob words (Sheet files) = NamePlanFiles (codes "sheet") words files
NameJob words (Board files) = NamePlanFiles (codes "board") words files
NameJob words (Gen film) = NameGen words film
NameJob words (Trial job) = NameTrial words job

-- the words name no job
abbrev pub NameNoJob : List Word → Type 0
NameNoJob words = (job : JobData) → ¬ NameJob words job
