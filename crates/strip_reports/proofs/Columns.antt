-- Cells that are appended, one after the other.
use Rattle.std.proofs.Common.{◌≡◌, ℕ, ◌+◌, Bool, true, false, if◌then◌else◌, append-nil, List, [], ◌∷◌, ◌++◌, append_assoc, map, refl, sym, ap, ◌∙◌}
use Rattle.std.specs.List.{range_with_len}
use Rattle.std.proofs.lemmas.List.{map-append}
use Rattle.std.proofs.lemmas.List.FromFn.{map-range_with_len_more}
use Rattle.strip_reports.specs.declared.html.Cell.{Cell}
use Rattle.strip_reports.specs.Cells.{cell_data}
use Rattle.strip_reports.specs.Html.{CellData, Cells, row_text, rows_text}

-- the cell of one more column
pub cell_next : (f : ℕ → CellData) (front : List CellData) (cells new : List Cell) (cell : Cell) (start k : ℕ)
    → new ≡ cells ++ cell ∷ [] → map cell_data cells ≡ front ++ map f (range_with_len start k) → cell_data cell ≡ f (start + k)
    → map cell_data new ≡ front ++ map f (range_with_len start (k + 1))
cell_next f front cells new cell start k pushed before is =
    ap (map cell_data) pushed ∙ map-append cell_data cells (cell ∷ [])
    ∙ (λ i. before i ++ is i ∷ [])
    ∙ append_assoc front (map f (range_with_len start k)) (f (start + k) ∷ [])
    ∙ ap (λ (list : List CellData). front ++ list) (sym (map-range_with_len_more f start k (start + k) refl))

-- the one row of totals in the last table
pub total_made : (last : Bool) (total : Cells) → last ≡ true → row_text total ≡ rows_text (if last then total ∷ [] else [])
total_made true total is = sym (append-nil (row_text total))
total_made false total is = absurd (cc)
