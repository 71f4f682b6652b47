-- The rows of the report as the code has them, and as contracts see them.
use Rattle.std.proofs.Common.{◌≡◌, ℕ, ◌+◌, List, [], ◌∷◌, ◌++◌, length, map, sym, ap, ◌∙◌, arith}
use Rattle.std.specs.List.{range_with_len}
use Rattle.std.proofs.lemmas.List.{flat_map_more}
use Rattle.std.proofs.lemmas.List.FromFn.{map-range_with_len_more}
use Rattle.strip_model.specs.Data.{InstanceData}
use Rattle.strip_text.specs.Rows.{Row, csv_row, csv_text}
use Rattle.strip_reports.specs.Text.{actor_fields, header_fields, rows_by_crews, total_fields}

-- one more row
pub row_next : (fields : ℕ → Row) (front : List ℕ) (k : ℕ)
    → (front ++ csv_text (map fields (range_with_len 0 k))) ++ csv_row (fields k) ≡ front ++ csv_text (map fields (range_with_len 0 (k + 1)))
row_next fields front k =
    flat_map_more csv_row front (map fields (range_with_len 0 k)) (fields k)
    ∙ ap (λ (rows : List Row). front ++ csv_text rows) (sym (map-range_with_len_more fields 0 k k (omega arith)))

last_row : (rows : List Row) (row : Row) → csv_text rows ++ csv_row row ≡ csv_text (rows ++ row ∷ [])
last_row rows row = flat_map_more csv_row [] rows row

-- the header, the rows of the actors and the last row are all rows
pub whole : (inst : InstanceData) (crews : List ℕ)
    → (csv_row (header_fields (length crews)) ++ csv_text (map (actor_fields inst crews) (range_with_len 0 (length inst.actors))))
    ++ csv_row (total_fields inst crews) ≡ csv_text (rows_by_crews inst crews)
whole inst crews =
    last_row (header_fields (length crews) ∷ map (actor_fields inst crews) (range_with_len 0 (length inst.actors))) (total_fields inst crews)
