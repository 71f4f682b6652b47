-- The rows that begin a case.
use Rattle.std.specs.Prelude.{ℕ, ◌≤◌, ◌==◌, Bool, true, false, List, codes, length}
use Rattle.std.specs.List.{before_first, count_by}
use Rattle.std.specs.Str.{bytes_eq}
use Rattle.std.specs.Str.Lines.{lines}
use Rattle.stripboard_cases.specs.declared.case.Cases.{Cases}
use Rattle.stripboard_cases.specs.declared.lines.Head.{Head}
use Rattle.stripboard_cases.specs.declared.lines.Head.TheVariants.{Case}
use Rattle.stripboard_cases.specs.declared.lines.Line.{Line}

-- what stands before the first blank
abbrev pub first_word : List ℕ → List ℕ
first_word row = before_first (λ b. b == 32) row

-- the row begins with the word `case`
abbrev pub is_case_row : List ℕ → Bool
is_case_row row = bytes_eq (first_word row) (codes "case")

abbrev pub case_rows : List ℕ → ℕ
case_rows text = count_by is_case_row (lines text)

-- there are at least as many cases as rows of the text that begin one
abbrev pub HasEachCase : List ℕ → Cases → Type 0
HasEachCase text cases = case_rows text ≤ length cases.cases.items

abbrev pub is_case : Head → Bool
is_case Case = true
is_case head = false

abbrev pub case_lines : List Line → ℕ
case_lines lines = count_by (λ line. is_case line.head) lines
