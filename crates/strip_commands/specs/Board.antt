-- The command `board`: the page of a plan's order.
use Rattle.std.specs.Prelude.{◌≡◌, ◌⊎◌, ℕ, List}
use Rattle.strip_model.specs.Data.{InstanceData}
use Rattle.strip_proof.specs.Plan.{PlanData}
use Rattle.strip_reports.specs.Board.{board_text}
use Rattle.strip_words.specs.Plans.{PlanFilesData}
use Rattle.strip_answer.specs.declared.status.Status.{Status}
use Rattle.strip_answer.specs.declared.status.Status.TheVariants.{Done}
use Rattle.strip_io.specs.Files.{FilesData}
use Rattle.strip_answer.specs.Both.{IsBothDue}
use Rattle.strip_commands.specs.Ordered.{HasOrder, IsNoOrder}

-- the page of the plan's order is printed, which may break pairs
pub record IsPage (inst : InstanceData) (plan : PlanData) (status : Status) (printed : List ℕ) : Type 0 where
  pub is_order : HasOrder inst plan
  pub done : status ≡ Done
  pub text : printed ≡ board_text inst plan

abbrev pub IsPageOrNone : InstanceData → PlanData → Status → List ℕ → Type 0
IsPageOrNone inst plan status printed = IsPage inst plan status printed ⊎ IsNoOrder inst plan.order status printed

-- what is due for the two files: of the plan its order is looked at, and its bound and status are printed as it has them
abbrev pub IsBoardDue : PlanFilesData → FilesData → FilesData → Status → List ℕ → Type 0
IsBoardDue files before after status printed = IsBothDue IsPageOrNone files.film files.plan before after status printed
