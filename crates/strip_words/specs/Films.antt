-- The commands that ask for a film's file, and the file that their words name.
use Rattle.std.specs.Prelude.{◌≡◌, Option, List, [], ◌∷◌}
use Rattle.strip_words.specs.Words.{Word, Command, Item, IsSpelled, operands_of}

-- a command with this word that has one operand and no options
abbrev pub film_command : Word → Command
film_command word = record { word = word; operands = 1; valued = []; flags = [] }

-- the words are those of the command with this word, and name this file
abbrev pub NameFilmFile : Word → List Word → Word → Type 0
NameFilmFile word words file =
    (items : List Item) × (rest : Option (List Word)) × IsSpelled (film_command word) words items rest
    × (operands_of items rest ≡ file ∷ [])
