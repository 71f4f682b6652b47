-- A report that was printed, and a list that was refused.
use Rattle.std.proofs.Common.{◌≡◌, ◌∙◌, ℕ, List, [], ◌∷◌, ◌++◌, length, map, sum, codes, ap}
use Rattle.std.specs.Fmt.{decimal}
use Rattle.std.specs.List.{range_with_len}
use Rattle.strip_model.specs.Pay.{pay_of}
use Rattle.strip_model.specs.Data.{InstanceData}
use Rattle.strip_model.specs.FilmOf.{film_of}
use Rattle.strip_text.specs.Rows.{Row, csv_text}
use Rattle.strip_reports.specs.Sheet.{header_row, scene_row, sheet_rows, total_pay, total_row}
use Rattle.strip_commands.specs.Report.{TellsPay}

-- the last field of the rows is the pay, and so it is that of their text
pub told_by_rows : (inst : InstanceData) (order printed : List ℕ) (all : List Row) → printed ≡ csv_text all
    → (rows : List Row) × (fields : Row) × (all ≡ rows ++ (fields ++ decimal (pay_of (film_of inst) order) ∷ []) ∷ [])
    → TellsPay inst order printed
told_by_rows inst order printed all is (rows, fields, said) = (rows, fields, is ∙ ap csv_text said)

-- the sheet's total is the pay
pub sheet_total : (inst : InstanceData) (order : List ℕ) → total_pay (film_of inst) order ≡ pay_of (film_of inst) order
    → (rows : List Row) × (fields : Row) × (sheet_rows inst order ≡ rows ++ (fields ++ decimal (pay_of (film_of inst) order) ∷ []) ∷ [])
sheet_total inst order same = (
  header_row ∷ map (scene_row inst order) (range_with_len 0 (length order)),
  codes "total" ∷ [] ∷ [] ∷ [] ∷ decimal (sum (film_of inst).days) ∷ [] ∷ [] ∷ [],
  ap (λ (pay : ℕ). (header_row ∷ map (scene_row inst order) (range_with_len 0 (length order))) ++ total_row (sum (film_of inst).days) pay ∷ []) same,
)
