-- The commands that ask for a film's file and a plan's, and the files that their words name.
use Rattle.std.specs.Prelude.{◌≡◌, Option, List, [], ◌∷◌}
use Rattle.strip_words.specs.Words.{Word, Command, Item, IsSpelled, operands_of}

-- a film's file and a plan's
pub record PlanFilesData : Type 0 where
  pub film : Word
  pub plan : Word

-- a command with this word that has two operands and no options
abbrev pub plan_command : Word → Command
plan_command word = record { word = word; operands = 2; valued = []; flags = [] }

-- the words are those of the command with this word, and name these files
abbrev pub NamePlanFiles : Word → List Word → PlanFilesData → Type 0
NamePlanFiles word words files =
    (items : List Item) × (rest : Option (List Word)) × IsSpelled (plan_command word) words items rest
    × (operands_of items rest ≡ files.film ∷ files.plan ∷ [])
