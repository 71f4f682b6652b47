-- What a read at a place of a stream gives, in the words that std has for streams.
use Rattle.std.specs.Prelude.{◌≡◌, ℕ, ◌+◌, List, drop, Option, Some, None}
use Rattle.strip_io.specs.Files.{CopiesFrom}
use Rattle.strip_io.specs.declared.open_file.OpenFile.{OpenFile}

-- what writes, and how often writes have failed
pub record WriterState (W : Type 0) : Type 0 where
  pub writer : W
  pub faults : ℕ

-- a stream gives what it holds from its place on
abbrev pub GivesFromItsPlace : {F : Type 0} → (F → Option (List ℕ)) → (F → Option ℕ) → (F → Option (List ℕ)) → Type 0
GivesFromItsPlace {F} held place left = (stream : F) (text : List ℕ) (at : ℕ) → held stream ≡ Some text
    → place stream ≡ Some at → left stream ≡ Some (drop at text)

-- some stream was opened and is at this place: it has left what it held from there on, where it told what it held and stood at
-- its beginning, and such streams give what they hold from their place on
abbrev pub StandsAt : {F : Type 0} → (F → Option (List ℕ)) → (F → Option ℕ) → (F → Option (List ℕ)) → ℕ → F → Type 0
StandsAt {F} held place left at stream = (fresh : F) × (GivesFromItsPlace held place left → (text : List ℕ)
    → held fresh ≡ Some text → place fresh ≡ Some 0 → left stream ≡ Some (drop at text))

-- the first n bytes of the buffer are those of the text from this place on, none only where it ends, and the stream has left
-- what stands behind them
pub record HasGiven {F : Type 0} (left : F → Option (List ℕ)) (text : List ℕ) (at n : ℕ) (into : List ℕ) (stream : F)
    : Type 0 where
  pub copies : CopiesFrom text at n into
  pub rest : left stream ≡ Some (drop (at + n) text)

-- a read of a stream at this place went on: if it had left what a text has from there on, it gave that
abbrev pub WentOn : {F : Type 0} → (F → Option (List ℕ)) → F → ℕ → ℕ → List ℕ → F → Type 0
WentOn left before at n into after = (text : List ℕ) → left before ≡ Some (drop at text)
    → HasGiven left text at n into after

-- a read at this place went on with the file that was open there, or else with one that was opened and is there
abbrev pub GaveFrom : {F : Type 0} → (F → Option (List ℕ)) → (F → Option ℕ) → (F → Option (List ℕ))
    → Option (OpenFile F) → ℕ → ℕ → List ℕ → F → Type 0
GaveFrom held place left (Some current) at n into after = WentOn left current.file at n into after
GaveFrom {F} held place left None at n into after =
    (begun : F) × StandsAt held place left at begun × WentOn left begun at n into after

-- a read at this place gave n bytes of the file with this number, which is open now and stands behind them
pub record IsReadOf {F : Type 0} (held : F → Option (List ℕ)) (place : F → Option ℕ) (left : F → Option (List ℕ))
    (before : Option (OpenFile F)) (entry at n : ℕ) (into : List ℕ) (now : Option (OpenFile F)) : Type 0 where
  pub current : OpenFile F
  pub is_current : now ≡ Some current
  pub entry_is : current.entry ≡ entry
  pub moved : current.at ≡ at + n
  pub gave : GaveFrom held place left before at n into current.file
