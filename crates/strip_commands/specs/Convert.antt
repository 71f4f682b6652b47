-- The command `convert`: a plan written in the newest format.
use Rattle.std.specs.Prelude.{◌≡◌, ℕ, List, Ok}
use Rattle.strip_model.specs.Data.{InstanceData}
use Rattle.strip_proof.specs.Plan.{PlanData}
use Rattle.strip_proof.specs.Rows.{plan_text}
use Rattle.strip_proof.specs.Text.{says}
use Rattle.strip_words.specs.Plans.{PlanFilesData}
use Rattle.strip_answer.specs.declared.status.Status.{Status}
use Rattle.strip_answer.specs.declared.status.Status.TheVariants.{Done}
use Rattle.strip_io.specs.Files.{FilesData}
use Rattle.strip_answer.specs.Both.{IsBothDue}
use Rattle.strip_answer.specs.Fit.{AreFit}

-- the text is that of the plan with all its lines, and says this plan
pub record IsConverted (inst : InstanceData) (plan : PlanData) (status : Status) (printed : List ℕ) : Type 0 where
  pub done : status ≡ Done
  pub text : printed ≡ plan_text inst plan
  pub same : says inst printed ≡ Ok plan

-- what is due for the two files
abbrev pub IsConvertDue : PlanFilesData → FilesData → FilesData → Status → List ℕ → Type 0
IsConvertDue files before after status printed = IsBothDue IsConverted files.film files.plan before after status printed

-- the files tell an instance and a plan of it, whatever they are
abbrev pub IsConvertFit : PlanFilesData → FilesData → Type 0
IsConvertFit files told = AreFit (λ inst plan. Unit {0}) files.film files.plan told
