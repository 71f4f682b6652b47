-- The text of the report.
use Rattle.std.specs.Prelude.{ℕ, ◌+◌, List, [], ◌∷◌, ◌++◌, length, map, replicate, codes, slice_index}
use Rattle.std.specs.List.{range_with_len}
use Rattle.std.specs.Fmt.{decimal}
use Rattle.strip_model.specs.Data.{InstanceData}
use Rattle.strip_model.specs.FilmOf.{film_of}
use Rattle.strip_text.specs.Field.{Field}
use Rattle.strip_text.specs.Rows.{Row, field_of, csv_text}
use Rattle.strip_reports.specs.declared.sums.Sums.{Sums}
use Rattle.strip_reports.specs.Days.{crews_of, day_code}
use Rattle.strip_reports.specs.Sums.{sums_of, total_of}

-- days are numbered from 1 in the text
abbrev pub day_number : ℕ → Field
day_number day = decimal (day + 1)

-- the header of a report of this many days
abbrev pub header_fields : ℕ → Row
header_fields days =
    codes "actor" ∷ codes "rate" ∷ (map day_number (range_with_len 0 days)
    ++ codes "work" ∷ codes "hold" ∷ codes "paid" ∷ codes "pay" ∷ [])

-- the days of work, those of waiting, both, and the pay
abbrev pub sum_fields : Sums → Row
sum_fields sums = decimal sums.work ∷ decimal sums.hold ∷ decimal (sums.work + sums.hold) ∷ decimal sums.pay ∷ []

-- a row below the header
abbrev pub row_of : Field → Field → List Field → Sums → Row
row_of first second days sums = first ∷ second ∷ (days ++ sum_fields sums)

-- the row of an actor, with the code of each day
abbrev pub actor_fields : InstanceData → List ℕ → ℕ → Row
actor_fields inst crews actor =
    row_of (field_of (map (λ actor. actor.name) inst.actors) actor) (decimal (slice_index (film_of inst).rates actor))
    (map (day_code crews actor) (range_with_len 0 (length crews))) (sums_of (film_of inst) crews actor)

-- the last row, with nothing below each day
abbrev pub total_fields : InstanceData → List ℕ → Row
total_fields inst crews = row_of (codes "total") [] (replicate (length crews) []) (total_of (film_of inst) crews)

-- the rows where this crew works on each day
abbrev pub rows_by_crews : InstanceData → List ℕ → List Row
rows_by_crews inst crews =
    header_fields (length crews) ∷ (map (actor_fields inst crews) (range_with_len 0 (length inst.actors))
    ++ total_fields inst crews ∷ [])

abbrev pub dood_rows : InstanceData → List ℕ → List Row
dood_rows inst order = rows_by_crews inst (crews_of (film_of inst) order)

-- the report of an order, as CSV
abbrev pub dood_text : InstanceData → List ℕ → List ℕ
dood_text inst order = csv_text (dood_rows inst order)
