-- The names that a source holds, with what it knows of each.
use Rattle.std.specs.Prelude.{ℕ, ◌+◌, ◌-◌, ◌^◌, min, Bool, nat_lt, if◌then◌else◌, List, [], ◌∷◌, Option, Some, None}
use Rattle.std.specs.Option.{is_some, option_map, unwrap_or}
use Rattle.std.specs.Str.{bytes_eq}
use Rattle.strip_io.specs.Files.{FilesData, files_data}

-- a held name, its bytes, how often reads of it have failed, and how many bytes they have given
pub record HeldFile : Type 0 where
  pub name : List ℕ
  pub bytes : List ℕ
  pub faults : ℕ
  pub came : ℕ

-- the file of this name
abbrev pub found : List HeldFile → List ℕ → Option HeldFile
found [] name = None
found (file ∷ files) name = if bytes_eq file.name name then Some file else found files name

-- whether the name is held
abbrev pub is_held : List HeldFile → List ℕ → Bool
is_held files name = is_some (found files name)

-- which of the files has the name, by its number; how many there are if none has it
abbrev pub entry_of : List HeldFile → List ℕ → ℕ
entry_of [] name = 0
entry_of (file ∷ files) name = if bytes_eq file.name name then 0 else entry_of files name + 1

-- the bytes of a held name
abbrev pub bytes_of : List HeldFile → List ℕ → Option (List ℕ)
bytes_of files name = option_map (λ file. file.bytes) (found files name)

-- the bytes of a name where every name is held, and one that was never put is empty
abbrev pub bytes_or_empty : List HeldFile → List ℕ → Option (List ℕ)
bytes_or_empty files name = Some (unwrap_or (bytes_of files name) [])

-- the count of the name's faults, which is 0 for a name that isn't held
abbrev pub faults_of : List HeldFile → List ℕ → ℕ
faults_of files name = unwrap_or (option_map (λ file. file.faults) (found files name)) 0

-- how many bytes reads of the name have given, which is 0 for a name that isn't held
abbrev pub came_of : List HeldFile → List ℕ → ℕ
came_of files name = unwrap_or (option_map (λ file. file.came) (found files name)) 0

-- these files at a moment, whose bytes are told
abbrev pub held_data : List HeldFile → FilesData
held_data files = files_data (is_held files) (bytes_of files) (faults_of files) (came_of files)

-- one more, but at the end of the type the same
abbrev pub next_count : ℕ → ℕ
next_count n = if nat_lt n (2 ^ 64 - 1) then n + 1 else n

-- a held name gets these bytes and keeps its counts; a new one begins with counts of 0
abbrev pub put : List HeldFile → List ℕ → List ℕ → List HeldFile
put [] name bytes = record { name = name; bytes = bytes; faults = 0; came = 0 } ∷ []
put (file ∷ files) name bytes = if bytes_eq file.name name then record file { bytes = bytes } ∷ files else file ∷ put files name bytes

-- the file of a held name changes so; for another name nothing changes
abbrev pub change : (HeldFile → HeldFile) → List HeldFile → List ℕ → List HeldFile
change how [] name = []
change how (file ∷ files) name = if bytes_eq file.name name then how file ∷ files else file ∷ change how files name

-- a read of the name failed
abbrev pub count_fault : List HeldFile → List ℕ → List HeldFile
count_fault files name = change (λ file. record file { faults = next_count file.faults }) files name

-- a read of the name gave n bytes
abbrev pub count_came : List HeldFile → List ℕ → ℕ → List HeldFile
count_came files name n = change (λ file. record file { came = min (file.came + n) (2 ^ 64 - 1) }) files name
