-- What the commands ask for that look at a plan's order.
use Rattle.std.specs.Prelude.{◌≡◌, ◌⊎◌, ℕ, List, length, codes}
use Rattle.strip_model.specs.Order.{IsOrder}
use Rattle.strip_model.specs.Data.{InstanceData}
use Rattle.strip_proof.specs.Plan.{PlanData}
use Rattle.strip_check.specs.declared.verdict.Reason.TheVariants.{NotAnOrder}
use Rattle.strip_check.specs.Told.{told_of}
use Rattle.strip_words.specs.Plans.{PlanFilesData}
use Rattle.strip_answer.specs.declared.status.Status.{Status}
use Rattle.strip_answer.specs.declared.status.Status.TheVariants.{NotAccepted}
use Rattle.strip_answer.specs.Rows.{told_row}
use Rattle.strip_io.specs.Files.{FilesData}
use Rattle.strip_answer.specs.Fit.{AreFit, AreUnfit}

-- the plan has an order of the scenes, which may break pairs
abbrev pub HasOrder : InstanceData → PlanData → Type 0
HasOrder inst plan = IsOrder (length inst.scenes) plan.order

-- a list that is no order is refused
pub record IsNoOrder (inst : InstanceData) (order : List ℕ) (status : Status) (printed : List ℕ) : Type 0 where
  pub no_order : ¬ IsOrder (length inst.scenes) order
  pub refused : status ≡ NotAccepted
  pub text : printed ≡ told_row (codes "refused") (told_of NotAnOrder)

-- the files tell an instance and a plan of it that has an order
abbrev pub IsOrderFit : PlanFilesData → FilesData → Type 0
IsOrderFit files told = AreFit HasOrder files.film files.plan told

-- or they don't, or the plan has none
abbrev pub IsOrderUnfit : PlanFilesData → FilesData → Status → Type 0
IsOrderUnfit files told why =
    AreUnfit files.film files.plan told why
    ⊎ (AreFit (λ inst plan. ¬ HasOrder inst plan) files.film files.plan told × (why ≡ NotAccepted))
