-- The rows of a text, and the text of rows.
use Rattle.std.specs.Prelude.{◌≡◌, ◌≢◌, ℕ, Bool, ◌==◌, List, [], length, map, All, slice_index_or}
use Rattle.std.specs.List.{flat_map, list_all}
use Rattle.csv.specs.Reading.{default_config, records, strip_bom}
use Rattle.csv.specs.Writing.{default_writer, row_text}
use Rattle.strip_text.specs.Field.{Field, trimmed}

abbrev pub Row : Type 0
Row = List Field

-- the field in a column, counted from 0; past the end it is empty
abbrev pub field_of : Row → ℕ → Field
field_of row place = slice_index_or row place []

-- the row at a place, counted from 0; past the end it has no fields
abbrev pub row_of : List Row → ℕ → Row
row_of rows place = slice_index_or rows place []

-- all fields are empty
abbrev pub is_empty_row : Row → Bool
is_empty_row row = list_all (λ field. length field == 0) row

-- the records of a text behind its byte-order mark, as CSV with commas and double quotes, their fields trimmed
abbrev pub rows_of : List ℕ → List Row
rows_of text = map (map trimmed) (records default_config (strip_bom text))

-- how many rows were read, and those that are left
pub record RowsData : Type 0 where
  pub number : ℕ
  pub left : List Row

-- a row as CSV writes it: commas between its fields, a field in double quotes where it has to be, and a line feed
abbrev pub csv_row : List Field → List ℕ
csv_row fields = row_text default_writer fields

abbrev pub csv_text : List Row → List ℕ
csv_text rows = flat_map csv_row rows

-- each row has a field, and the text begins with no byte-order mark
pub record IsWritable (rows : List Row) : Type 0 where
  pub some : All (λ row. row ≢ []) rows
  pub unmarked : strip_bom (csv_text rows) ≡ csv_text rows
