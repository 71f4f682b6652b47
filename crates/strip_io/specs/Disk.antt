-- What is read of a disk.
use Rattle.std.specs.Prelude.{ℕ, ◌==◌, ◌&&◌, if◌then◌else◌, List, [], ◌∷◌, Option, Some, None}
use Rattle.strip_io.specs.Held.{HeldFile}
use Rattle.strip_io.specs.declared.open_file.OpenFile.{OpenFile}

-- the names that may be read, with what is known of each, the disk that they are read of, the file that is open, and how
-- many reads there have been, at most 2^64 - 1
pub record HostState (D F : Type 0) : Type 0 where
  pub held : List HeldFile
  pub disk : D
  pub current : Option (OpenFile F)
  pub reads : ℕ

-- the file that is open, if it is the one of this number and stands at this place, where a read goes on
abbrev pub standing : {F : Type 0} → ℕ → ℕ → Option (OpenFile F) → Option (OpenFile F)
standing entry at None = None
standing entry at (Some file) = if (file.entry == entry) && (file.at == at) then Some file else None

-- what is opened for a read of this name: nothing if the read goes on, else its file
abbrev pub opened_for : {F : Type 0} → Option (OpenFile F) → List ℕ → List (List ℕ)
opened_for (Some file) name = []
opened_for None name = name ∷ []
