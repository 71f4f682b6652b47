-- When a step did what is wanted of it.
use Rattle.std.specs.Prelude.{◌≡◌, ◌⊎◌, ℕ, ◌≤◌, ◌^◌, ◌-◌, true, List, [], ◌++◌, ◌∷◌, IfSome, All, Contains, string_bytes}
use Rattle.strip_text.specs.Number.{is_number, number_of}
use Rattle.stripboard_cases.specs.declared.case.Bound.{Bound}
use Rattle.stripboard_cases.specs.declared.case.Bound.TheVariants.{Number, In}
use Rattle.stripboard_cases.specs.declared.case.Held.{Held}
use Rattle.stripboard_cases.specs.declared.case.NumberWanted.{NumberWanted}
use Rattle.stripboard_cases.specs.declared.case.Relation.{Relation}
use Rattle.stripboard_cases.specs.declared.case.Relation.TheVariants.{Equal, AtMost, AtLeast}
use Rattle.stripboard_cases.specs.declared.case.Wanted.{Wanted}

-- what stands before a row: nothing, or a line feed at the end
abbrev pub IsBeforeRow : List ℕ → Type 0
IsBeforeRow front = (front ≡ []) ⊎ ((earlier : List ℕ) × (front ≡ earlier ++ 10 ∷ []))

-- the text has this row, with a line feed behind it
pub record HasRow (text row : List ℕ) : Type 0 where
  pub front : List ℕ
  pub behind : List ℕ
  pub starts : IsBeforeRow front
  pub whole : text ≡ front ++ (row ++ 10 ∷ behind)

-- the text has a row of this name and this number
pub record HasNumber (text name : List ℕ) (number : ℕ) : Type 0 where
  pub digits : List ℕ
  pub row : HasRow text (name ++ 44 ∷ digits)
  pub spelled : is_number 0 (2 ^ 64 - 1) digits ≡ true
  pub same : number ≡ number_of digits

-- the file is at hand with these bytes
abbrev pub IsHeld : List Held → List ℕ → List ℕ → Type 0
IsHeld files name bytes = (file : Held) × Contains files file × (string_bytes file.name ≡ name)
    × (file.bytes.items ≡ bytes)

abbrev pub IsBound : List Held → Bound → ℕ → Type 0
IsBound files (Number most) number = number ≡ most
IsBound files (In name file) number = (bytes : List ℕ) × IsHeld files (string_bytes file) bytes
    × HasNumber bytes (string_bytes name) number

abbrev pub AreRelated : Relation → ℕ → ℕ → Type 0
AreRelated Equal number other = number ≡ other
AreRelated AtMost number other = number ≤ other
AreRelated AtLeast number other = other ≤ number

-- the number was printed, and what it is compared with is there and agrees
pub record IsNumberMet (printed : List ℕ) (files : List Held) (wanted : NumberWanted) : Type 0 where
  pub number : ℕ
  pub other : ℕ
  pub has : HasNumber printed (string_bytes wanted.name) number
  pub bound : IsBound files wanted.bound other
  pub related : AreRelated wanted.relation number other

-- the step ended with one of the statuses, printed the text where one is wanted, and has each row and number
pub record IsMet (wanted : Wanted) (status : ℕ) (printed : List ℕ) (files : List Held) : Type 0 where
  pub ended : Contains wanted.statuses.items status
  pub text : IfSome wanted.text (λ text. text.items ≡ printed)
  pub rows : All (λ row. HasRow printed row.items) wanted.rows.items
  pub numbers : All (IsNumberMet printed files) wanted.numbers.items
