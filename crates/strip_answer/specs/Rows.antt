-- The row of what a fault tells.
use Rattle.std.specs.Prelude.{ℕ, List, [], ◌∷◌, codes, Option, None, Some}
use Rattle.std.specs.Fmt.{decimal}
use Rattle.strip_text.specs.Field.{Field}
use Rattle.strip_text.specs.Rows.{csv_row}
use Rattle.strip_text.specs.Told.{ToldData}

-- a field with a number, or an empty one
abbrev pub number_field : Option ℕ → Field
number_field None = []
number_field (Some number) = decimal number

-- a word, the fault's name, its numbers where it has them, and the names that it lists
abbrev pub told_row : Field → ToldData → List ℕ
told_row word told = csv_row (word ∷ told.name ∷ number_field told.first ∷ number_field told.second ∷ told.names)

abbrev pub error_row : ToldData → List ℕ
error_row told = told_row (codes "error") told
