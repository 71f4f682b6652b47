-- Text and tables of HTML 5.
use Rattle.std.specs.Prelude.{ℕ, ◌==◌, List, [], ◌∷◌, ◌++◌, codes, if◌then◌else◌}
use Rattle.std.specs.Fmt.{decimal}
use Rattle.std.specs.List.{flat_map}

-- a byte of a name as the page has it: the five characters that markup is made of stand as entities
abbrev pub escape : ℕ → List ℕ
escape byte =
    if byte == 38 then codes "&amp;"
    else if byte == 60 then codes "&lt;"
    else if byte == 62 then codes "&gt;"
    else if byte == 34 then codes "&quot;"
    else if byte == 39 then codes "&#39;"
    else byte ∷ []

abbrev pub escaped : List ℕ → List ℕ
escaped name = flat_map escape name

-- a name, whose direction of writing changes nothing outside it
abbrev pub isolated : List ℕ → List ℕ
isolated name = codes "<bdi>" ++ escaped name ++ codes "</bdi>"

-- a cell of a table: fixed words, a name, a name that heads a narrow column, a number, or what an actor does
pub data CellData : Type 0 where
  Word : List ℕ → CellData
  Name : List ℕ → CellData
  Upright : List ℕ → CellData
  Number : ℕ → CellData
  Works : CellData
  Held : CellData
  Empty : CellData

abbrev pub cell_text : CellData → List ℕ
cell_text (Word words) = codes "<th>" ++ words ++ codes "</th>"
cell_text (Name name) = codes "<th class=\"name\">" ++ isolated name ++ codes "</th>"
cell_text (Upright name) = codes "<th class=\"upright\">" ++ isolated name ++ codes "</th>"
cell_text (Number number) = codes "<td>" ++ decimal number ++ codes "</td>"
cell_text Works = codes "<td class=\"works\">W</td>"
cell_text Held = codes "<td class=\"held\">H</td>"
cell_text Empty = codes "<td></td>"

-- a row of a table
abbrev pub Cells : Type 0
Cells = List CellData

abbrev pub row_text : Cells → List ℕ
row_text cells = codes "<tr>" ++ flat_map cell_text cells ++ codes "</tr>\n"

abbrev pub rows_text : List Cells → List ℕ
rows_text rows = flat_map row_text rows

-- the row of a table's heads, which stands on each page again
abbrev pub begin_text : Cells → List ℕ
begin_text heads = codes "<table>\n<thead>\n" ++ row_text heads ++ codes "</thead>\n<tbody>\n"

abbrev pub totals_tag : List ℕ
totals_tag = codes "</tbody>\n<tbody class=\"totals\">\n"

abbrev pub end_tag : List ℕ
end_tag = codes "</tbody>\n</table>\n"

-- a table: its heads, its rows, and the rows of its totals
abbrev pub table_text : Cells → List Cells → List Cells → List ℕ
table_text heads rows totals = begin_text heads ++ rows_text rows ++ totals_tag ++ rows_text totals ++ end_tag
