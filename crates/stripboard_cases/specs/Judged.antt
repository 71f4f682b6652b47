-- What a run over case files says.
use Rattle.std.specs.Prelude.{◌≡◌, ◌⊎◌, ℕ, zero, suc, ◌+◌, ◌-◌, ◌^◌, ◌≤◌, min, Bool, true, false, List, [], ◌∷◌, ◌++◌, length, All, Option, None, Some, IfSome, codes}
use Rattle.std.specs.Fmt.{decimal}
use Rattle.strip_io.specs.Sink.{Took}
use Rattle.strip_answer.specs.Run.{RunData, HasWriteFault}
use Rattle.stripboard_cases.specs.declared.case.Cases.{Cases}
use Rattle.stripboard_cases.specs.CaseRows.{HasEachCase}
use Rattle.stripboard_cases.specs.Runs.{IsCaseMet}

-- all cases of a file are met
abbrev pub AreMet : Cases → Type 0
AreMet cases = All (IsCaseMet cases.shared.items) cases.cases.items

-- these cases were read of a file, from its bytes where they are told, and none of them was left out
abbrev pub IsReadFrom : Option (List ℕ) → Cases → Type 0
IsReadFrom told cases = (text : List ℕ) × IfSome told (λ bytes. text ≡ bytes) × HasEachCase text cases

-- the files of these names in turn, of each its cases, or none where it couldn't be read
abbrev pub AreRead : (List ℕ → Option (List ℕ)) → List (List ℕ) → List (Option Cases) → Type 0
AreRead told [] [] = Unit {0}
AreRead told (name ∷ names) (file ∷ files) = IfSome file (IsReadFrom (told name)) × AreRead told names files
AreRead told names files = ⊥

-- how many cases the files have
abbrev pub cases_in : List (Option Cases) → ℕ
cases_in [] = 0
cases_in (None ∷ later) = cases_in later
cases_in (Some cases ∷ later) = length cases.cases.items + cases_in later

-- whether one of them couldn't be read
abbrev pub is_any_unread : List (Option Cases) → Bool
is_any_unread [] = false
is_any_unread (None ∷ later) = true
is_any_unread (Some cases ∷ later) = is_any_unread later

-- so many cases were run, by a count that stands at the end of its type, and so many of them differ: where none
-- does, all are met
pub record IsCounted (files : List (Option Cases)) (cases differ : ℕ) (is_unread : Bool) : Type 0 where
  pub counted : cases ≡ min (cases_in files) (2 ^ 64 - 1)
  pub few : differ ≤ cases
  pub met : differ ≡ 0 → All (λ file. IfSome file AreMet) files
  pub unread : is_unread ≡ is_any_unread files

abbrev pub last_row : ℕ → ℕ → List ℕ
last_row cases differ = decimal cases ++ (codes " cases, " ++ (decimal differ ++ codes " differ\n"))

abbrev pub end_status : ℕ → Bool → ℕ
end_status differ true = 2
end_status zero false = 0
end_status (suc more) false = 1

-- the files that the words name were read, but for those that couldn't be, and their cases run; the last row says
-- how many, and the status agrees
pub record IsJudged (run : RunData) (status : ℕ) : Type 0 where
  pub files : List (Option Cases)
  pub each : AreRead run.files_before.bytes run.words files
  pub cases : ℕ
  pub differ : ℕ
  pub is_unread : Bool
  pub counted : IsCounted files cases differ is_unread
  pub rows : List ℕ
  pub printed : Took run.sink_before.taken run.sink_after.taken (rows ++ last_row cases differ)
  pub ended : status ≡ end_status differ is_unread

-- or a write failed
abbrev pub IsJudgement : RunData → ℕ → Type 0
IsJudgement run status = IsJudged run status ⊎ ((status ≡ 8) × HasWriteFault run.sink_before run.sink_after)
