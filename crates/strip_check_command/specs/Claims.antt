-- What the accountant's program claims.
use Rattle.std.specs.Prelude.{◌≡◌, ◌⊎◌, ℕ, ◌<◌, ◌≤◌, List, ◌∷◌, Some, Ok, codes}
use Rattle.strip_model.specs.Data.{InstanceData}
use Rattle.strip_model.specs.FilmOf.{film_of}
use Rattle.strip_reduce.specs.Reduction.{class_count}
use Rattle.strip_words.specs.Words.{Word}
use Rattle.strip_words.specs.Plans.{NamePlanFiles, PlanFilesData}
use Rattle.strip_proof.specs.Plan.{PlanData}
use Rattle.strip_check.specs.Accepted.{IsAccepted, IsTruePlan}
use Rattle.strip_answer.specs.declared.status.Status.{Status}
use Rattle.strip_answer.specs.declared.status.Status.TheVariants.{Done, NotAccepted, BadInstance}
use Rattle.strip_answer.specs.Claims.{Claims}
use Rattle.strip_io.specs.Files.{FilesData}
use Rattle.strip_answer.specs.Both.{IsBothDue, IsEither}
use Rattle.strip_answer.specs.Fit.{AreFit, AreUnfit}
use Rattle.strip_answer.specs.Said.{film_said, plan_said}
use Rattle.strip_check_command.specs.Audit.{IsAudited}

-- the words are two operands, a film's file and a plan's: what follows the word of the command that checks
abbrev pub NameFiles : List Word → PlanFilesData → Type 0
NameFiles words files = NamePlanFiles (codes "check") (codes "check" ∷ words) files

-- the instance has few enough classes to be checked, or too many
abbrev pub HasFew : InstanceData → PlanData → Type 0
HasFew inst plan = class_count (film_of inst) ≤ 64

abbrev pub HasMany : InstanceData → PlanData → Type 0
HasMany inst plan = 64 < class_count (film_of inst)

-- what is due for the two files
abbrev pub IsAuditDue : PlanFilesData → FilesData → FilesData → Status → List ℕ → Type 0
IsAuditDue files before after status printed = IsBothDue IsAudited files.film files.plan before after status printed

-- the plan can be checked, and is accepted or not; or it can't, as this status says
abbrev pub IsAuditFit : PlanFilesData → FilesData → Type 0
IsAuditFit files told = AreFit HasFew files.film files.plan told

abbrev pub IsAuditStatus : Status → Type 0
IsAuditStatus status = (status ≡ Done) ⊎ (status ≡ NotAccepted)

abbrev pub IsAuditUnfit : PlanFilesData → FilesData → Status → Type 0
IsAuditUnfit files told why =
    AreUnfit files.film files.plan told why ⊎ (AreFit HasMany files.film files.plan told × (why ≡ BadInstance))

abbrev pub audit_claims : Claims PlanFilesData
audit_claims = record {
  Names = NameFiles;
  Asks = λ files told file. IsEither files.film files.plan told file;
  Due = IsAuditDue;
  Fit = IsAuditFit;
  FitStatus = λ files status. IsAuditStatus status;
  Unfit = IsAuditUnfit;
}

-- what the status 0 proves: the words name two files, the first says an instance and the second a plan of it, which
-- are those that the files tell, where they tell them, and what the plan says is true
pub record IsProved (words : List Word) (told : FilesData) : Type 0 where
  pub files : PlanFilesData
  pub named : NameFiles words files
  pub film_text : List ℕ
  pub film_told : (bytes : List ℕ) → told.bytes files.film ≡ Some bytes → film_text ≡ bytes
  pub plan_text : List ℕ
  pub plan_told : (bytes : List ℕ) → told.bytes files.plan ≡ Some bytes → plan_text ≡ bytes
  pub inst : InstanceData
  pub film_says : film_said film_text ≡ Ok inst
  pub plan : PlanData
  pub plan_says : plan_said inst plan_text ≡ Ok plan
  pub accepted : IsAccepted (film_of inst) plan
  pub true_plan : IsTruePlan (film_of inst) plan
