-- The files at hand in a case, and how they change.
use Rattle.std.specs.Prelude.{◌≡◌, ◌≢◌, ◌↔◌, ℕ, true, List, ◌++◌, Some, string_bytes}
use Rattle.strip_io.specs.Files.{FilesData}
use Rattle.stripboard_cases.specs.declared.case.Base.{Base}
use Rattle.stripboard_cases.specs.declared.case.Base.TheVariants.{None, Behind, Within}
use Rattle.stripboard_cases.specs.declared.case.Given.{Given}
use Rattle.stripboard_cases.specs.declared.case.Held.{Held}
use Rattle.stripboard_cases.specs.Met.{IsHeld}

-- no name has two texts
pub record AreApart (files : List Held) : Type 0 where
  pub same : (name one other : List ℕ) → IsHeld files name one → IsHeld files name other → one ≡ other

-- from now on the name has these bytes, and each other name has those that it had
pub record IsNowHeld (name bytes : List ℕ) (before after : List Held) : Type 0 where
  pub held : IsHeld after name bytes
  pub alone : (other : List ℕ) → IsHeld after name other → other ≡ bytes
  pub others : (other kept : List ℕ) → other ≢ name → IsHeld after other kept ↔ IsHeld before other kept

-- the bytes of a given file: its rows, or its rows behind those of a file at hand, or such a file with its rows in
-- place of one
abbrev pub HasBytes : List Held → Base → List ℕ → List ℕ → Type 0
HasBytes files None rows bytes = bytes ≡ rows
HasBytes files (Behind of) rows bytes = (front : List ℕ) × IsHeld files (string_bytes of) front
    × (bytes ≡ front ++ rows)
HasBytes files (Within of row) rows bytes = (whole : List ℕ) × IsHeld files (string_bytes of) whole

-- a given file is at hand from now on
pub record IsGiven (given : Given) (before after : List Held) : Type 0 where
  pub bytes : List ℕ
  pub made : HasBytes before given.base given.text.items bytes
  pub now : IsNowHeld (string_bytes given.name) bytes before after

-- a source holds the files at hand, tells their bytes, and no read of it failed yet
pub record IsSource (files : List Held) (source : FilesData) : Type 0 where
  pub told : (name bytes : List ℕ) → (source.bytes name ≡ Some bytes) ↔ IsHeld files name bytes
  pub held : (name : List ℕ) → (source.holds name ≡ true) ↔ ((bytes : List ℕ) × IsHeld files name bytes)
  pub unread : (name : List ℕ) → source.faults name ≡ 0
