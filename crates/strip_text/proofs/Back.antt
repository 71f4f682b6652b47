-- Rows that are written read back.
use Rattle.std.proofs.Common.{◌≡◌, ◌≢◌, List, [], ◌∷◌, map, All, None, refl, ap, ◌∙◌}
use Rattle.std.proofs.lemmas.List.Elements.{All-head, All-tail}
use Rattle.csv.specs.Machine.{next_record}
use Rattle.csv.specs.Reading.{Reached, default_config, records}
use Rattle.csv.specs.Writing.{read_back}
use Rattle.csv.specs.declared.parser.State.TheVariants as st
use Rattle.csv.proofs.RoundTrip.{read-write}
use Rattle.strip_text.specs.Field.{trimmed}
use Rattle.strip_text.specs.Rows.{Row, rows_of, csv_text, IsWritable}
use Rattle.strip_text.proofs.Records.{records-alone}

-- rows that are written are reached one by one
reached_rows : (rows : List Row) → Reached default_config st.StartRecord (csv_text rows) (map read_back rows) st.StartRecord []
unfolding Reached
reached_rows [] = (refl, refl)
reached_rows (row ∷ rows) =
    ((read_back row, st.StartRecord, csv_text rows), read-write row (csv_text rows), refl, reached_rows rows)

-- there is no record where the text has ended
no_record : next_record default_config st.StartRecord [] [] [] ≡ None
unfolding next_record
no_record = refl

-- a row with a field is written with all its fields
back_as_it_is : (row : Row) → row ≢ [] → read_back row ≡ row
back_as_it_is [] some = absurd (some refl)
back_as_it_is (field ∷ row) some = refl

back_as_they_are : (rows : List Row) → All (λ row. row ≢ []) rows → map read_back rows ≡ rows
back_as_they_are [] some = refl
back_as_they_are (row ∷ rows) some =
    ap (λ (first : Row). first ∷ map read_back rows) (back_as_it_is row (All-head (λ (r : Row). r ≢ []) row rows some))
    ∙ ap (λ (rest : List Row). row ∷ rest) (back_as_they_are rows (All-tail (λ (r : Row). r ≢ []) row rows some))

pub rows_of-written : (rows : List Row) → IsWritable rows → rows_of (csv_text rows) ≡ map (map trimmed) rows
rows_of-written rows is =
    ap (λ text. map (map trimmed) (records default_config text)) is.unmarked
    ∙ ap (map (map trimmed)) (records-alone (csv_text rows) (map read_back rows) (st.StartRecord, [], reached_rows rows, no_record)
    ∙ back_as_they_are rows is.some)
