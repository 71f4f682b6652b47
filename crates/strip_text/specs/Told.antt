-- What a fault tells, and the sentences that say it.
use Rattle.std.specs.Prelude.{ℕ, List, [], ◌++◌, codes, Option, Some, map}
use Rattle.std.specs.Fmt.{decimal}
use Rattle.std.specs.String.{string_bytes}
use Rattle.strip_text.specs.declared.told.Told.{Told}

-- a fault's name, the one or two numbers that say where or how many, and the names that it lists
pub record ToldData : Type 0 where
  pub name : List ℕ
  pub first : Option ℕ
  pub second : Option ℕ
  pub names : List (List ℕ)

abbrev pub told_data : Told → ToldData
told_data told = record { name = told.name.now; first = told.first; second = told.second; names = map string_bytes told.names.now }

-- a name and one or two numbers, and no names
abbrev pub told_alone : List ℕ → Option ℕ → Option ℕ → ToldData
told_alone name first second = record { name = name; first = first; second = second; names = [] }

-- a name, and the row and the column where they are told
abbrev pub told_at : List ℕ → Option ℕ → Option ℕ → Option ToldData
told_at name row col = Some (told_alone name row col)

-- a sentence about a row, about a column, and about a field
abbrev pub row_sentence : ℕ → List ℕ → List ℕ
row_sentence row words = codes "row " ++ decimal row ++ words

abbrev pub column_sentence : ℕ → List ℕ → List ℕ
column_sentence col words = codes "column " ++ decimal col ++ words

abbrev pub field_sentence : ℕ → ℕ → List ℕ → List ℕ
field_sentence row col words = codes "row " ++ (decimal row ++ (codes ", column " ++ (decimal col ++ words)))
