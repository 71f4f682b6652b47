-- The film's file that the words of a command name.
use Rattle.std.proofs.Common.{◌≡◌, List, [], ◌∷◌, refl}
use Rattle.strip_words.specs.Words.{Word, operands_of}
use Rattle.strip_words.specs.Films.{NameFilmFile, film_command}
use Rattle.strip_words.proofs.Spelled.{said}

pub file_once : (word : Word) (words : List Word) (a b : Word) → NameFilmFile word words a → NameFilmFile word words b → a ≡ b
file_once word words a b (items, rest, spelled, one) names =
    let two = said (film_command word) refl words items rest spelled (λ items rest. operands_of items rest ≡ b ∷ []) names in
    cc
