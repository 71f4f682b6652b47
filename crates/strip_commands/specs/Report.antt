-- The commands `dood` and `sheet`: a report of a plan's order.
use Rattle.std.specs.Prelude.{◌≡◌, ◌⊎◌, ℕ, List, [], ◌∷◌, ◌++◌, length}
use Rattle.std.specs.Fmt.{decimal}
use Rattle.strip_model.specs.Order.{IsOrder}
use Rattle.strip_model.specs.Pay.{pay_of}
use Rattle.strip_model.specs.Data.{InstanceData}
use Rattle.strip_model.specs.FilmOf.{film_of}
use Rattle.strip_text.specs.Rows.{Row, csv_text}
use Rattle.strip_words.specs.Plans.{PlanFilesData}
use Rattle.strip_answer.specs.declared.status.Status.{Status}
use Rattle.strip_answer.specs.declared.status.Status.TheVariants.{Done}
use Rattle.strip_io.specs.Files.{FilesData}
use Rattle.strip_answer.specs.Both.{IsBothDue}
use Rattle.strip_commands.specs.Ordered.{IsNoOrder}

-- a report of an instance in an order
abbrev pub Report : Type 0
Report = InstanceData → List ℕ → List ℕ

-- the last field of the last row says what the order pays
abbrev pub TellsPay : InstanceData → List ℕ → List ℕ → Type 0
TellsPay inst order printed =
    (rows : List Row) × (fields : Row)
    × (printed ≡ csv_text (rows ++ (fields ++ decimal (pay_of (film_of inst) order) ∷ []) ∷ []))

-- the report of an order is printed, and its total is the pay; the order may break pairs
pub record IsPrinted (report : Report) (inst : InstanceData) (order : List ℕ) (status : Status) (printed : List ℕ) : Type 0 where
  pub is_order : IsOrder (length inst.scenes) order
  pub done : status ≡ Done
  pub text : printed ≡ report inst order
  pub pay : TellsPay inst order printed

abbrev pub IsReported : Report → InstanceData → List ℕ → Status → List ℕ → Type 0
IsReported report inst order status printed = IsPrinted report inst order status printed
    ⊎ IsNoOrder inst order status printed

-- what is due for the two files: of the plan the order alone is looked at
abbrev pub IsReportDue : Report → PlanFilesData → FilesData → FilesData → Status → List ℕ → Type 0
IsReportDue report files before after status printed =
    IsBothDue (λ inst plan. IsReported report inst plan.order) files.film files.plan before after status printed
