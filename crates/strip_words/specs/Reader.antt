-- What the reader's private functions promise one another.
use Rattle.std.specs.Prelude.{◌≡◌, Bool, not, eqb, nat_lt, ◌&&◌, Option, List, ◌++◌, length, take, All, codes, flat_map, bytes_eq}
use Rattle.std.specs.List.{list_any, list_all}
use Rattle.strip_words.specs.Words.{Word, Command, Item, spelling, ending, BelongsTo}

-- the words begin with this item of the command, and these follow
pub record Begins (command : Command) (words : List Word) (item : Item) (later : List Word) : Type 0 where
  pub begins : words ≡ spelling item ++ later
  pub belongs : BelongsTo command item

-- the words are these items of the command, and what follows them
pub record Spells (command : Command) (words : List Word) (items : List Item) (rest : Option (List Word)) : Type 0 where
  pub spelled : words ≡ flat_map spelling items ++ ending rest
  pub belong : All (BelongsTo command) items

-- two hyphens and more, no equals sign
abbrev pub is_option_name : Word → Bool
is_option_name word = bytes_eq (take 2 word) (codes "--") && nat_lt 2 (length word)
    && not (list_any (λ byte. eqb byte 61) word)

-- the command's options can be told from other words, and those with a value from those without
abbrev pub has_names : Command → Bool
has_names command =
    list_all is_option_name command.valued && list_all is_option_name command.flags
    && not (list_any (λ flag. list_any (bytes_eq flag) command.valued) command.flags)
