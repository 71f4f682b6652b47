-- What the program claims of its jobs. Each command has a line in each definition by jobs.
use Rattle.std.specs.Prelude.{◌≡◌, ◌⊎◌, ◌<◌, ◌≤◌, List, IfSome, ℕ}
use Rattle.strip_model.specs.FilmOf.{film_of}
use Rattle.strip_reduce.specs.Reduction.{class_count}
use Rattle.strip_reports.specs.Text.{dood_text}
use Rattle.strip_reports.specs.Sheet.{sheet_text}
use Rattle.strip_words.specs.Gen.{IsSized}
use Rattle.strip_words.specs.Jobs.{JobData, Solve, Price, Arrange, Check, Convert, Dood, Sheet, Board, Gen, Trial, NameJob}
use Rattle.strip_answer.specs.declared.status.Status.{Status}
use Rattle.strip_answer.specs.declared.status.Status.TheVariants.{Done, Bounded, BadInstance}
use Rattle.strip_answer.specs.Claims.{Claims}
use Rattle.strip_io.specs.Files.{FilesData}
use Rattle.strip_answer.specs.Both.{IsEither}
use Rattle.strip_answer.specs.Fit.{AreUnfit}
use Rattle.strip_check_command.specs.Claims.{IsAuditDue, IsAuditFit, IsAuditStatus, IsAuditUnfit}
use Rattle.strip_commands.specs.Film.{IsFilmDue, IsFilmFit, IsFilmUnfit}
use Rattle.strip_commands.specs.Solve.{IsSolveDue}
use Rattle.strip_commands.specs.Price.{IsPriceStatus, IsPriced}
use Rattle.strip_commands.specs.Convert.{IsConvertDue, IsConvertFit}
use Rattle.strip_commands.specs.Ordered.{IsOrderFit, IsOrderUnfit}
use Rattle.strip_commands.specs.Report.{IsReportDue}
use Rattle.strip_commands.specs.Arrange.{IsArrangeDue}
use Rattle.strip_commands.specs.Board.{IsBoardDue}
use Rattle.strip_commands.specs.Made.{IsGenDue, IsTrialDue, made_of}

-- the job asks for this file, by what the files tell
abbrev pub IsFileOf : JobData → FilesData → List ℕ → Type 0
IsFileOf (Solve job) told file = job.file ≡ file
IsFileOf (Price film) told file = film ≡ file
IsFileOf (Arrange files) told file = IsEither files.film files.plan told file
IsFileOf (Check files) told file = IsEither files.film files.plan told file
IsFileOf (Convert files) told file = IsEither files.film files.plan told file
IsFileOf (Dood files) told file = IsEither files.film files.plan told file
IsFileOf (Sheet files) told file = IsEither files.film files.plan told file
IsFileOf (Board files) told file = IsEither files.film files.plan told file
IsFileOf (Gen film) told file = ⊥
IsFileOf (Trial job) told file = ⊥

-- the job's numbers lie within their ends
abbrev pub IsWithin : JobData → Type 0
IsWithin (Solve job) =
    (1 ≤ job.nodes) × (job.nodes ≤ 16777216) × (64 ≤ job.table) × (job.table ≤ 4194304)
    × IfSome job.tries (λ tries. tries ≤ 100000000) × IfSome job.workers (λ workers. (1 ≤ workers) × (workers ≤ 64))
    × IfSome job.steps (λ steps. (1 ≤ steps) × (steps ≤ 1000))
IsWithin (Price film) = Unit {0}
IsWithin (Arrange files) = Unit {0}
IsWithin (Check files) = Unit {0}
IsWithin (Convert files) = Unit {0}
IsWithin (Dood files) = Unit {0}
IsWithin (Sheet files) = Unit {0}
IsWithin (Board files) = Unit {0}
IsWithin (Gen film) = IsSized film
IsWithin (Trial job) =
    IsSized job.film × (1 ≤ job.nodes) × (job.nodes ≤ 16777216) × (64 ≤ job.table) × (job.table ≤ 4194304)
    × IfSome job.tries (λ tries. tries ≤ 100000000) × IfSome job.steps (λ steps. (1 ≤ steps) × (steps ≤ 1000))

-- what is due for the job
abbrev pub IsDueFor : JobData → FilesData → FilesData → Status → List ℕ → Type 0
IsDueFor (Solve job) before after status printed = IsSolveDue job before after status printed
IsDueFor (Price film) before after status printed = IsFilmDue IsPriced film before after status printed
IsDueFor (Arrange files) before after status printed = IsArrangeDue files before after status printed
IsDueFor (Check files) before after status printed = IsAuditDue files before after status printed
IsDueFor (Convert files) before after status printed = IsConvertDue files before after status printed
IsDueFor (Dood files) before after status printed = IsReportDue dood_text files before after status printed
IsDueFor (Sheet files) before after status printed = IsReportDue sheet_text files before after status printed
IsDueFor (Board files) before after status printed = IsBoardDue files before after status printed
IsDueFor (Gen film) before after status printed = IsGenDue film status printed
IsDueFor (Trial job) before after status printed = IsTrialDue job status printed

-- the job can be done with what its files tell, and the statuses with which it then ends, unless something fails
abbrev pub IsFitFor : JobData → FilesData → Type 0
IsFitFor (Solve job) told = IsFilmFit job.file told
IsFitFor (Price film) told = IsFilmFit film told
IsFitFor (Arrange files) told = IsOrderFit files told
IsFitFor (Check files) told = IsAuditFit files told
IsFitFor (Convert files) told = IsConvertFit files told
IsFitFor (Dood files) told = IsOrderFit files told
IsFitFor (Sheet files) told = IsOrderFit files told
IsFitFor (Board files) told = IsOrderFit files told
IsFitFor (Gen film) told = Unit {0}
IsFitFor (Trial job) told = class_count (film_of (made_of job.film)) ≤ 64

abbrev pub IsFitStatus : JobData → Status → Type 0
IsFitStatus (Solve job) status = (status ≡ Done) ⊎ (status ≡ Bounded)
IsFitStatus (Price film) status = IsPriceStatus status
IsFitStatus (Arrange files) status = status ≡ Done
IsFitStatus (Check files) status = IsAuditStatus status
IsFitStatus (Convert files) status = status ≡ Done
IsFitStatus (Dood files) status = status ≡ Done
IsFitStatus (Sheet files) status = status ≡ Done
IsFitStatus (Board files) status = status ≡ Done
IsFitStatus (Gen film) status = status ≡ Done
IsFitStatus (Trial job) status = (status ≡ Done) ⊎ (status ≡ Bounded)

-- it can't be done with what its files tell, as this status says
abbrev pub IsUnfitFor : JobData → FilesData → Status → Type 0
IsUnfitFor (Solve job) told why = IsFilmUnfit job.file told why
IsUnfitFor (Price film) told why = IsFilmUnfit film told why
IsUnfitFor (Arrange files) told why = IsOrderUnfit files told why
IsUnfitFor (Check files) told why = IsAuditUnfit files told why
IsUnfitFor (Convert files) told why = AreUnfit files.film files.plan told why
IsUnfitFor (Dood files) told why = IsOrderUnfit files told why
IsUnfitFor (Sheet files) told why = IsOrderUnfit files told why
IsUnfitFor (Board files) told why = IsOrderUnfit files told why
IsUnfitFor (Gen film) told why = ⊥
IsUnfitFor (Trial job) told why = (64 < class_count (film_of (made_of job.film))) × (why ≡ BadInstance)

abbrev pub board_claims : Claims JobData
board_claims = record {
  Names = NameJob;
  Asks = IsFileOf;
  Due = IsDueFor;
  Fit = IsFitFor;
  FitStatus = IsFitStatus;
  Unfit = IsUnfitFor;
}
