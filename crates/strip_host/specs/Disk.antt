-- What the host's disk was asked for, and what is known of its files.
use Rattle.std.specs.Prelude.{ℕ, Bool, true, false, List, map, Option, None, String, string_bytes}
use Rattle.std.specs.declared.alloc.Global.{Global}
use Rattle.strip_host.specs.declared.file.HostFile.{HostFile}
use Rattle.strip_host.specs.declared.file.HostFile.TheVariants.{Named, Standard}

-- the names of the files that were opened, in their order, and whether the standard input was
pub record DiskState : Type 0 where
  pub opened : List (List ℕ)
  pub is_begun : Bool

-- the names that are noted
abbrev pub names_of : List (String Global × Unit {0}) → List (List ℕ)
names_of noted = map (λ note. string_bytes note.0) noted

-- it is the standard input
abbrev pub is_standard : {F I : Type 0} → HostFile F I → Bool
is_standard (Named file) = false
is_standard (Standard input) = true

-- what reads will give, where it is known
abbrev pub left_of : {F I : Type 0} → (F → Option (List ℕ)) → (I → Option (List ℕ)) → HostFile F I → Option (List ℕ)
left_of left_of_file left_of_input (Named file) = left_of_file file
left_of left_of_file left_of_input (Standard input) = left_of_input input

-- what is known of a file that can be sought; of the standard input it isn't
abbrev pub known_of : {F I A : Type 0} → (F → Option A) → HostFile F I → Option A
known_of known (Named file) = known file
known_of known (Standard input) = None
