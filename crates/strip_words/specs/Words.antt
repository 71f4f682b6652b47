-- What a list of command words spells, each word as its bytes: a command, items, and perhaps `--` and further operands.
use Rattle.std.specs.Prelude.{◌≡◌, ◌≢◌, ℕ, ◌⊎◌, Option, None, Some, List, [], ◌∷◌, ◌++◌, length, All, codes, flat_map, Contains}
use Rattle.std.specs.List.{filter_map}

abbrev pub Word : Type 0
Word = List ℕ

-- a command: its word, how many operands it has, its options that have a value, and those that have none
pub record Command : Type 0 where
  pub word : Word
  pub operands : ℕ
  pub valued : List Word
  pub flags : List Word

-- what may stand between the command and `--`
pub data Item : Type 0 where
  Operand : Word → Item
  -- an option and its value as one word, with an equals sign between them, and as two words
  Joined : Word → Word → Item
  Apart : Word → Word → Item
  -- an option that has no value
  Flag : Word → Item

abbrev pub spelling : Item → List Word
spelling (Operand word) = word ∷ []
spelling (Joined name value) = (name ++ 61 ∷ value) ∷ []
spelling (Apart name value) = name ∷ value ∷ []
spelling (Flag name) = name ∷ []

-- the words behind the items: none, or `--` and operands
abbrev pub ending : Option (List Word) → List Word
ending None = []
ending (Some words) = codes "--" ∷ words

-- not empty, and no hyphen first
abbrev pub IsPlain : Word → Type 0
IsPlain [] = ⊥
IsPlain (first ∷ rest) = first ≢ 45

-- an operand before `--` is plain or the hyphen alone; a value is plain; an option is one of the command's
abbrev pub BelongsTo : Command → Item → Type 0
BelongsTo command (Operand word) = IsPlain word ⊎ (word ≡ codes "-")
BelongsTo command (Joined name value) = Contains command.valued name × IsPlain value
BelongsTo command (Apart name value) = Contains command.valued name × IsPlain value
BelongsTo command (Flag name) = Contains command.flags name

abbrev pub operand_of : Item → Option Word
operand_of (Operand word) = Some word
operand_of (Joined name value) = None
operand_of (Apart name value) = None
operand_of (Flag name) = None

abbrev pub option_of : Item → Option Word
option_of (Operand word) = None
option_of (Joined name value) = Some name
option_of (Apart name value) = Some name
option_of (Flag name) = Some name

-- the operands behind `--`
abbrev pub operands_behind : Option (List Word) → List Word
operands_behind None = []
operands_behind (Some words) = words

-- the operands, among the items and behind them
abbrev pub operands_of : List Item → Option (List Word) → List Word
operands_of items rest = filter_map operand_of items ++ operands_behind rest

-- the names of the options among the items
abbrev pub options_in : List Item → List Word
options_in items = filter_map option_of items

-- the list has no word twice
abbrev pub AreDistinct : List Word → Type 0
AreDistinct [] = Unit {0}
AreDistinct (word ∷ words) = (¬ Contains words word) × AreDistinct words

-- these words are spelled so
pub record IsSpelled (command : Command) (words : List Word) (items : List Item) (rest : Option (List Word)) : Type 0 where
  pub spelled : words ≡ command.word ∷ flat_map spelling items ++ ending rest
  pub belong : All (BelongsTo command) items
  pub once : AreDistinct (options_in items)
  pub count : length (operands_of items rest) ≡ command.operands
  pub filled : All (λ word. word ≢ []) (operands_of items rest)
