-- The two formats of plan texts.
use Rattle.std.specs.Prelude.{ℕ, ◌+◌, ◌-◌, List, [], ◌++◌, length, drop, codes, if◌then◌else◌}
use Rattle.std.specs.Str.{bytes_eq}
use Rattle.strip_model.specs.declared.kind.Kind.{Kind}
use Rattle.strip_model.specs.declared.kind.Kind.TheVariants.{Pairs}
use Rattle.strip_model.specs.Data.{InstanceData}
use Rattle.strip_text.specs.Field.{Field}
use Rattle.strip_text.specs.Number.{number_of}
use Rattle.strip_text.specs.Rows.{Row, field_of, row_of}
use Rattle.strip_proof.specs.Field.{is_kind, kind_of}
use Rattle.strip_proof.specs.Faults.{Checks, is_pair, row_is, count_checks, due, plan_row_checks, lines_checks}

-- the value of the row at a place, which stands behind its word
abbrev pub value_of : List Row → ℕ → Field
value_of rows place = field_of (row_of rows place) 1

-- a format by what it adds to the five rows of every plan and the rows of its lines: the kind of bounds that the
-- lines go by, how many rows stand before the five, how many before the lines, how many lines are due, and the
-- checks of the rows before the five and of those behind them
pub record Format : Type 0 where
  pub kind : Kind
  pub before : ℕ
  pub heads : ℕ
  pub lines : ℕ
  pub front : Checks
  pub back : Checks

-- the first format has no other rows, and each row behind the five is a line's
abbrev pub first_format : List Row → Format
first_format rows = record { kind = Pairs; before = 0; heads = 5; lines = length rows - 5; front = []; back = [] }

-- the second format names itself and the bounds before the five, and counts its lines behind them
abbrev pub second_format : List Row → Format
second_format rows = record {
  kind = kind_of (value_of rows 1);
  before = 2;
  heads = 8;
  lines = number_of (value_of rows 7);
  front = due 1 (row_is (is_pair (codes "plan") (λ value. bytes_eq value (codes "2")))) rows
      ++ due 2 (row_is (is_pair (codes "bounds") is_kind)) (drop 1 rows);
  back = due 8 count_checks (drop 7 rows);
}

-- a text is of the second format where its first row begins with the word
abbrev pub format_of : List Row → Format
format_of rows = if bytes_eq (field_of (row_of rows 0) 0) (codes "plan") then second_format rows else first_format rows

-- all checks of rows in a format
abbrev pub checks_in : InstanceData → List Row → Format → Checks
checks_in inst rows format =
    format.front
    ++ plan_row_checks inst (format.before + 1) (drop format.before rows)
    ++ format.back
    ++ lines_checks (format.heads + 1) format.lines (drop format.heads rows)

abbrev pub plan_checks : InstanceData → List Row → Checks
plan_checks inst rows = checks_in inst rows (format_of rows)
