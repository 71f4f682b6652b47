-- The parts of an instance text, over its rows.
use Rattle.std.specs.Prelude.{ℕ, Bool, List, length, drop, codes, Option, None, Some, if◌then◌else◌}
use Rattle.std.specs.List.{before_first}
use Rattle.strip_text.specs.Field.{Field}
use Rattle.strip_text.specs.Rows.{Row, field_of, row_of}
use Rattle.strip_instance.specs.Field.{is_word}

-- the fields behind the first two, one for each actor
abbrev pub actor_fields : Row → List Field
actor_fields row = drop 2 row

-- whether the rows behind the rates begin with a hold row, which begins with the word
abbrev pub has_hold_row : List Row → Bool
has_hold_row rest = is_word (codes "hold") (field_of (row_of rest 0) 0)

-- the hold row among the rows behind the rates, where there is one
abbrev pub hold_of : List Row → Option Row
hold_of rest = if has_hold_row rest then Some (row_of rest 0) else None

-- the others, and the number of the first of them
abbrev pub body_of : List Row → List Row
body_of rest = if has_hold_row rest then drop 1 rest else rest

abbrev pub first_of : List Row → ℕ
first_of rest = if has_hold_row rest then 4 else 3

-- a row that begins with the word
abbrev pub is_before_row : Row → Bool
is_before_row row = is_word (codes "before") (field_of row 0)

-- the rows of the scenes, which end before the first such row, and the rows from that one on
abbrev pub scenes_part : List Row → List Row
scenes_part body = before_first is_before_row body

abbrev pub befores_part : List Row → List Row
befores_part body = drop (length (scenes_part body)) body

-- the header, the rates, the hold rates where they have a row, the rows of the scenes, those behind them, and the
-- number of the first row behind the rates
pub record Parts : Type 0 where
  pub header : Row
  pub rates : Row
  pub hold : Option Row
  pub scenes : List Row
  pub befores : List Row
  pub first : ℕ

abbrev pub parts_of : List Row → Parts
parts_of rows =
    let rest = drop 2 rows in
    record { header = row_of rows 0; rates = row_of rows 1; hold = hold_of rest; scenes = scenes_part (body_of rest); befores = befores_part (body_of rest); first = first_of rest }
