-- What the options among the items say.
use Rattle.std.specs.Prelude.{◌≡◌, ◌≢◌, ℕ, ◌+◌, ◌*◌, ◌-◌, ◌≤◌, ◌⊎◌, Option, None, Some, List, [], ◌∷◌, All, Any, Contains}
use Rattle.strip_words.specs.Words.{Word, Item, Operand, Joined, Apart, Flag}

-- the item gives the option this value
abbrev pub Gives : Word → Word → Item → Type 0
Gives name value (Operand word) = ⊥
Gives name value (Joined option given) = (option ≡ name) × (given ≡ value)
Gives name value (Apart option given) = (option ≡ name) × (given ≡ value)
Gives name value (Flag option) = ⊥

-- no item gives the option a value
abbrev pub IsLeftOut : Word → List Item → Type 0
IsLeftOut name items = (value : Word) → ¬ Any (Gives name value) items

-- the number of these digits, read on from a number
abbrev pub number_from : ℕ → Word → ℕ
number_from n [] = n
number_from n (digit ∷ digits) = number_from (n * 10 + (digit - 48)) digits

-- one or more digits, a number within these ends
pub record IsNumber (least most : ℕ) (word : Word) (n : ℕ) : Type 0 where
  pub some : word ≢ []
  pub digits : All (λ byte. (48 ≤ byte) × (byte ≤ 57)) word
  pub value : n ≡ number_from 0 word
  pub within : (least ≤ n) × (n ≤ most)

-- an option whose value is a number within two ends, and the number where the option is left out
pub record NumberOption : Type 0 where
  pub name : Word
  pub least : ℕ
  pub most : ℕ
  pub default : ℕ

-- an option whose value is a number within two ends, and which may say nothing
pub record FreeOption : Type 0 where
  pub name : Word
  pub least : ℕ
  pub most : ℕ

-- an option whose value is one of a few words, and the word where the option is left out
pub record ChoiceOption : Type 0 where
  pub name : Word
  pub choices : List Word
  pub default : Word

-- the option's number
abbrev pub IsChosen : NumberOption → List Item → ℕ → Type 0
IsChosen option items n =
    (IsLeftOut option.name items × (n ≡ option.default))
    ⊎ ((value : Word) × Any (Gives option.name value) items × IsNumber option.least option.most value n)

-- the option's number, where it has one
abbrev pub IsGiven : FreeOption → List Item → Option ℕ → Type 0
IsGiven option items None = IsLeftOut option.name items
IsGiven option items (Some n) = (value : Word) × Any (Gives option.name value) items
    × IsNumber option.least option.most value n

-- the option's word
abbrev pub IsPicked : ChoiceOption → List Item → Word → Type 0
IsPicked option items word =
    (IsLeftOut option.name items × (word ≡ option.default))
    ⊎ (Any (Gives option.name word) items × Contains option.choices word)
