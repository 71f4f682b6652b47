-- What words spell, in one way.
use Rattle.std.proofs.Common.{◌≡◌, ◌≢◌, true, Option, None, Some, List, [], ◌∷◌, ◌++◌, All, flat_map, refl, sym, ap, ◌∙◌, subst, codes, append_assoc, append-nil}
use Rattle.std.proofs.lemmas.List.Elements.{All-head, All-tail}
use Rattle.strip_words.specs.Words.{Word, Command, Item, Operand, Joined, Apart, Flag, spelling, ending, BelongsTo, IsSpelled}
use Rattle.strip_words.specs.Reader.{Begins, Spells, has_names}
use Rattle.strip_words.proofs.Names.{HasNames, names_from, not_end, begins_once}

some_word : {A : Type 0} (item : Item) (later : List Word) → [] ≡ spelling item ++ later → A
some_word (Operand word) later same = absurd (cc)
some_word (Joined name value) later same = absurd (cc)
some_word (Apart name value) later same = absurd (cc)
some_word (Flag name) later same = absurd (cc)

-- the first of the items, and what follows it
pub first_of_items : (command : Command) (words : List Word) (item : Item) (items : List Item) (later : List Word)
    → words ≡ flat_map spelling (item ∷ items) ++ later → All (BelongsTo command) (item ∷ items)
    → Begins command words item (flat_map spelling items ++ later)
first_of_items command words item items later same belong = record {
  begins = same ∙ append_assoc (spelling item) (flat_map spelling items) later;
  belongs = All-head (BelongsTo command) item items belong;
}

module _ (command : Command) (names : HasNames command) where
  no_item : {A : Type 0} (rest : Option (List Word)) (item : Item) (later : List Word) → Begins command (ending rest) item later → A
  no_item None item later is = some_word item later is.begins
  no_item (Some words) item later is = absurd (not_end command names words item later is)

  same_rest : (a b : Option (List Word)) → ending a ≡ ending b → a ≡ b
  same_rest None None same = refl
  same_rest None (Some words) same = absurd (cc)
  same_rest (Some words) None same = absurd (cc)
  same_rest (Some words) (Some others) same = let is : words ≡ others = cc in ap Some is

  -- what is spelled goes on from the items that stand first
  pub goes_on : (items : List Item) (words later : List Word) → words ≡ flat_map spelling items ++ later → All (BelongsTo command) items
      → (others : List Item) (rest : Option (List Word)) → Spells command words others rest
      → (more : List Item) × (others ≡ items ++ more) × Spells command later more rest
  goes_on [] words later same belong others rest is = (others, refl, subst (λ ws. Spells command ws others rest) same is)
  goes_on (item ∷ items) words later same belong [] rest is =
      no_item rest item (flat_map spelling items ++ later) (subst (λ ws. Begins command ws item (flat_map spelling items ++ later)) is.spelled (first_of_items command words item items later same belong))
  goes_on (item ∷ items) words later same belong (other ∷ others) rest is =
      let one = begins_once command names words item other (flat_map spelling items ++ later) (flat_map spelling others ++ ending rest)
      (first_of_items command words item items later same belong) (first_of_items command words other others (ending rest) is.spelled is.belong) in
      let found = goes_on items (flat_map spelling items ++ later) later refl (All-tail (BelongsTo command) item items belong) others rest
      (record { spelled = one.1; belong = All-tail (BelongsTo command) other others is.belong }) in
      let first = one.0 in
      let after = found.1 in
      (found.0, (cc), found.2)

  pub spells_once : (words : List Word) (a b : List Item) (r s : Option (List Word)) → Spells command words a r → Spells command words b s → (a ≡ b) × (r ≡ s)
  spells_once words a b r s one two =
      let found = goes_on a words (ending r) one.spelled one.belong b s two in
      by found.0 found.1 found.2
    where
      by : (more : List Item) → b ≡ a ++ more → Spells command (ending r) more s → (a ≡ b) × (r ≡ s)
      by [] same is = (sym (same ∙ append-nil a), same_rest r s is.spelled)
      by (item ∷ more) same is = no_item r item (flat_map spelling more ++ ending s) (first_of_items command (ending r) item more (ending s) is.spelled is.belong)

  -- nothing is spelled that begins with a word other than `--` and no item
  pub nothing_on : (word : Word) (behind : List Word) → word ≢ codes "--" → ((item : Item) (later : List Word) → ¬ Begins command (word ∷ behind) item later)
      → (items : List Item) (rest : Option (List Word)) → ¬ Spells command (word ∷ behind) items rest
  nothing_on word behind other none [] None is = let same = is.spelled in absurd (cc)
  nothing_on word behind other none [] (Some words) is = other (let same = is.spelled in cc)
  nothing_on word behind other none (item ∷ items) rest is =
      none item (flat_map spelling items ++ ending rest) (first_of_items command (word ∷ behind) item items (ending rest) is.spelled is.belong)

pub spells_from : (command : Command) (words later : List Word) (items : List Item) (rest : Option (List Word)) → words ≡ command.word ∷ later
    → IsSpelled command words items rest → Spells command later items rest
spells_from command words later items rest begins is = record { spelled = (let whole = is.spelled in cc); belong = is.belong }

pub spelled_once : (command : Command) → HasNames command → (words : List Word) (a b : List Item) (r s : Option (List Word))
    → IsSpelled command words a r → IsSpelled command words b s → (a ≡ b) × (r ≡ s)
spelled_once command names words a b r s one two =
    let later = flat_map spelling a ++ ending r in
    spells_once command names later a b r s (record { spelled = refl; belong = one.belong }) (spells_from command words later b s one.spelled two)

-- what words say is said by the items that were read
pub said : (command : Command) → has_names command ≡ true → (words : List Word) (items : List Item) (rest : Option (List Word)) → IsSpelled command words items rest
    → (Say : List Item → Option (List Word) → Type 0) → ((a : List Item) × (r : Option (List Word)) × IsSpelled command words a r × Say a r) → Say items rest
said command names words items rest is Say (a, r, spelled, says) =
    let once = spelled_once command (names_from command names) words a items r rest spelled is in
    subst (λ r. Say items r) once.1 (subst (λ a. Say a r) once.0 says)
