-- The cost sheet of an instance in an order: a row for each scene in shooting order, and a row of totals.
use Rattle.std.specs.Prelude.{ℕ, ◌+◌, List, [], ◌∷◌, ◌++◌, length, map, take, sum, codes, slice_index}
use Rattle.std.specs.Fmt.{decimal}
use Rattle.std.specs.List.{range_with_len}
use Rattle.strip_mask.specs.Sums.{sum_below}
use Rattle.strip_model.specs.Film.{FilmData}
use Rattle.strip_model.specs.Pay.{works}
use Rattle.strip_model.specs.Data.{InstanceData, scene_name}
use Rattle.strip_model.specs.FilmOf.{film_of}
use Rattle.strip_text.specs.Field.{Field}
use Rattle.strip_text.specs.Rows.{Row, csv_text}
use Rattle.strip_reports.specs.declared.figures.Figures.{Figures}
use Rattle.strip_reports.specs.Days.{days_of, how_many, is_held, pay_at, scene_at}

-- what the sheet says of the scene at this place: its first day is the one after all days before it
abbrev pub figures_at : FilmData → List ℕ → ℕ → Figures
figures_at film order place = record {
  first = days_of film (take place order) + 1;
  last = days_of film (take (place + 1) order);
  days = slice_index film.days (scene_at order place);
  working = how_many (length film.rates) (λ actor. works film actor (scene_at order place));
  holding = how_many (length film.rates) (is_held film order place);
  pay = pay_at film order place;
}

-- what all actors get for all scenes
abbrev pub total_pay : FilmData → List ℕ → ℕ
total_pay film order = sum_below (length order) (pay_at film order)

abbrev pub header_row : Row
header_row =
    codes "position" ∷ codes "scene" ∷ codes "first" ∷ codes "last" ∷ codes "days" ∷ codes "working" ∷ codes "holding" ∷ codes "pay" ∷ []

-- a row of a place, which is counted from 1, of a scene's name, and of what the sheet says
abbrev pub row_of : ℕ → Field → Figures → Row
row_of position name figures =
    decimal position ∷ name ∷ decimal figures.first ∷ decimal figures.last ∷ decimal figures.days
    ∷ decimal figures.working ∷ decimal figures.holding ∷ decimal figures.pay ∷ []

abbrev pub scene_row : InstanceData → List ℕ → ℕ → Row
scene_row inst order place = row_of (place + 1) (scene_name inst (scene_at order place))
    (figures_at (film_of inst) order place)

-- all days, and what all actors get for all scenes
abbrev pub total_row : ℕ → ℕ → Row
total_row days pay = codes "total" ∷ [] ∷ [] ∷ [] ∷ decimal days ∷ [] ∷ [] ∷ decimal pay ∷ []

abbrev pub sheet_rows : InstanceData → List ℕ → List Row
sheet_rows inst order =
    header_row ∷ map (scene_row inst order) (range_with_len 0 (length order))
    ++ total_row (sum (film_of inst).days) (total_pay (film_of inst) order) ∷ []

abbrev pub sheet_text : InstanceData → List ℕ → List ℕ
sheet_text inst order = csv_text (sheet_rows inst order)
