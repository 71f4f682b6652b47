-- The checks of a plan text's rows in the order in which their faults are told.
use Rattle.std.specs.Prelude.{ℕ, ◌+◌, Bool, true, false, ◌==◌, ◌&&◌, nat_le, nat_lt, List, [], ◌∷◌, ◌++◌, length, drop, codes, Result}
use Rattle.std.specs.List.{list_all}
use Rattle.std.specs.Str.{bytes_eq}
use Rattle.strip_model.specs.Data.{InstanceData}
use Rattle.strip_text.specs.Field.{Field}
use Rattle.strip_text.specs.Number.{number_of}
use Rattle.strip_text.specs.Rows.{Row, field_of, row_of}
use Rattle.strip_text.specs.Checks.{Check, MakesOr, check, checks_of_one, below}
use Rattle.strip_proof.specs.declared.fault.PlanFault.{PlanFault}
use Rattle.strip_proof.specs.declared.fault.PlanFault.TheVariants.{BadRow, Missing, UnknownScene, TooManyLines, Memory}
use Rattle.strip_proof.specs.Field.{is_status, is_amount, is_set, is_scene}

abbrev pub Checks : Type 0
Checks = List (Check PlanFault)

-- what a call answers that makes these checks: no fault where all hold, else the first one's, or want of memory
abbrev pub Makes : {T : Type 0} → Checks → Result T PlanFault → Type 0
Makes checks result = MakesOr Memory checks result

-- the row has so many fields, of which the first is the word
abbrev pub begins : Field → ℕ → Row → Bool
begins word width row = (length row == width) && bytes_eq (field_of row 0) word

-- a row of the word and one value
abbrev pub is_pair : Field → (Field → Bool) → Row → Bool
is_pair word is row = begins word 2 row && is (field_of row 1)

-- the row of the order has one name or more, that of a line a set and a bound
abbrev pub is_order_row : Row → Bool
is_order_row row = nat_le 2 (length row) && bytes_eq (field_of row 0) (codes "order")

abbrev pub is_line_row : Row → Bool
is_line_row row = begins (codes "line") 3 row && is_set (field_of row 1) && is_amount (field_of row 2)

-- what is asked of a row with its number: that it is of one kind
abbrev pub row_is : (Row → Bool) → ℕ → Row → Checks
row_is is number row = checks_of_one (is row) (BadRow number)

-- that it is the row of the order, and each name a scene's
abbrev pub order_checks : InstanceData → ℕ → Row → Checks
order_checks inst number row =
    check (is_order_row row) (BadRow number)
    ∷ check (list_all (is_scene inst) (drop 1 row)) (UnknownScene number)
    ∷ []

-- that it counts the lines, and there aren't too many
abbrev pub count_checks : ℕ → Row → Checks
count_checks number row =
    check (is_pair (codes "proof") is_amount row) (BadRow number)
    ∷ check (nat_le (number_of (field_of row 1)) 16_777_216) TooManyLines
    ∷ []

-- that it is the row of a line, and there aren't too many before it
abbrev pub line_checks : ℕ → ℕ → Row → Checks
line_checks before number row = check (is_line_row row) (BadRow number) ∷ check
    (nat_lt before 16_777_216) TooManyLines ∷ []

-- there is a row
abbrev pub has_row : List Row → Bool
has_row [] = false
has_row (row ∷ rows) = true

-- the first of these rows is due with this number: it is there, and then what is asked of it
abbrev pub due : ℕ → (ℕ → Row → Checks) → List Row → Checks
due number asked rows = check (has_row rows) (Missing number) ∷ asked number (row_of rows 0)

-- the five rows of every plan, of which the first has this number
abbrev pub plan_row_checks : InstanceData → ℕ → List Row → Checks
plan_row_checks inst first rows =
    due first (row_is (is_pair (codes "status") is_status)) rows
    ++ due (first + 1) (row_is (is_pair (codes "cost") is_amount)) (drop 1 rows)
    ++ due (first + 2) (row_is (is_pair (codes "bound") is_amount)) (drop 2 rows)
    ++ due (first + 3) (row_is (is_pair (codes "lines") is_amount)) (drop 3 rows)
    ++ due (first + 4) (order_checks inst) (drop 4 rows)

-- the line row at a place of these rows, of which the first has this number
abbrev pub line_due : ℕ → List Row → ℕ → Checks
line_due first rows place = due (first + place) (line_checks place) (drop place rows)

-- so many line rows are due: each of them, and then that there is no row more
abbrev pub lines_checks : ℕ → ℕ → List Row → Checks
lines_checks first count rows =
    below count (line_due first rows)
    ++ checks_of_one (nat_le (length rows) count) (BadRow (first + count))
