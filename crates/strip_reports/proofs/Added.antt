-- The text of the sheet, a row after the other.
use Rattle.std.proofs.Common.{◌≡◌, ℕ, ◌+◌, List, [], ◌∷◌, ◌++◌, length, map, sum, slice_index, sym, ap, ◌∙◌, arith}
use Rattle.std.specs.List.{range_with_len}
use Rattle.std.proofs.lemmas.List.{flat_map_more, length-map}
use Rattle.std.proofs.lemmas.List.FromFn.{map-range_with_len_more}
use Rattle.strip_mask.specs.Sums.{sum_below}
use Rattle.strip_mask.proofs.Sums.{sum_below-slice}
use Rattle.strip_model.specs.Order.{IsOrder}
use Rattle.strip_model.proofs.Counts.{sum-order}
use Rattle.strip_model.specs.Data.{InstanceData, SceneData, scene_name}
use Rattle.strip_model.specs.FilmOf.{film_of}
use Rattle.strip_text.specs.Field.{Field}
use Rattle.strip_text.specs.Rows.{Row, csv_row, csv_text}
use Rattle.strip_reports.specs.declared.figures.Figures.{Figures}
use Rattle.strip_reports.specs.Days.{days_of, pay_at, scene_at}
use Rattle.strip_reports.specs.Sheet.{header_row, figures_at, row_of, scene_row, sheet_text, total_row}

-- the row of one place more
row_next : (front : List ℕ) (row : ℕ → Row) (n : ℕ)
    → (front ++ csv_text (map row (range_with_len 0 n))) ++ csv_row (row n) ≡ front ++ csv_text (map row (range_with_len 0 (n + 1)))
row_next front row n =
    flat_map_more csv_row front (map row (range_with_len 0 n)) (row n)
    ∙ ap (λ (rows : List Row). front ++ csv_text rows) (sym (map-range_with_len_more row 0 n n (omega arith)))

pub row_added : (front : List ℕ) (inst : InstanceData) (order : List ℕ) (n : ℕ) (name : Field) (figures : Figures) (text new : List ℕ)
    → new ≡ text ++ csv_row (row_of (n + 1) name figures)
    → text ≡ front ++ csv_text (map (scene_row inst order) (range_with_len 0 n))
    → name ≡ scene_name inst (scene_at order n) → figures ≡ figures_at (film_of inst) order n
    → new ≡ front ++ csv_text (map (scene_row inst order) (range_with_len 0 (n + 1)))
row_added front inst order n name figures text new written before named lined =
    written
    ∙ ap (λ (t : List ℕ). t ++ csv_row (row_of (n + 1) name figures)) before
    ∙ ap (λ (field : Field). (front ++ csv_text (map (scene_row inst order) (range_with_len 0 n))) ++ csv_row (row_of (n + 1) field figures)) named
    ∙ ap (λ (l : Figures). (front ++ csv_text (map (scene_row inst order) (range_with_len 0 n))) ++ csv_row (row_of (n + 1) (scene_name inst (scene_at order n)) l)) lined
    ∙ row_next front (scene_row inst order) n

-- the days along an order are all days
all_days : (inst : InstanceData) (order : List ℕ) → IsOrder (length inst.scenes) order → days_of (film_of inst) order ≡ sum (film_of inst).days
all_days inst order is =
    sum-order (length inst.scenes) (slice_index (film_of inst).days) order is
    ∙ ap (λ (n : ℕ). sum_below n (slice_index (film_of inst).days)) (sym (length-map inst.scenes (λ (scene : SceneData). scene.days)))
    ∙ sum_below-slice (film_of inst).days

-- the last row makes the text whole
pub whole : (inst : InstanceData) (order : List ℕ) (n days pay : ℕ) (text : List ℕ) → IsOrder (length inst.scenes) order → n ≡ length order
    → text ≡ csv_row header_row ++ csv_text (map (scene_row inst order) (range_with_len 0 n))
    → days ≡ days_of (film_of inst) order → pay ≡ sum_below n (pay_at (film_of inst) order)
    → text ++ csv_row (total_row days pay) ≡ sheet_text inst order
whole inst order n days pay text is all before these paid =
    let rows : ℕ → List Row = λ k. map (scene_row inst order) (range_with_len 0 k) in
    ap (λ (t : List ℕ). t ++ csv_row (total_row days pay)) before
    ∙ flat_map_more csv_row (csv_row header_row) (rows n) (total_row days pay)
    ∙ ap (λ (d : ℕ). csv_row header_row ++ csv_text (rows n ++ total_row d pay ∷ [])) (these ∙ all_days inst order is)
    ∙ ap (λ (p : ℕ). csv_row header_row ++ csv_text (rows n ++ total_row (sum (film_of inst).days) p ∷ [])) paid
    ∙ ap (λ (k : ℕ). csv_row header_row ++ csv_text (rows k ++ total_row (sum (film_of inst).days) (sum_below k (pay_at (film_of inst) order)) ∷ [])) all
