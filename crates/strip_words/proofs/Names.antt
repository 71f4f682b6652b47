-- Names of options, and which item words begin with.
use Rattle.std.proofs.Common.{◌≡◌, ℕ, Bool, true, not, eqb, nat_lt, ◌&&◌, List, [], ◌∷◌, ◌++◌, length, take, All, Contains, ◌⊎◌, inl, inr, refl, sym, ap, ap₂, ◌∙◌, subst, codes, bytes_eq, true≢false, append-nil}
use Rattle.std.specs.List.{list_any, list_all, AllByRecursion}
use Rattle.std.proofs.lemmas.List.Elements.{All-contains, All-from_recursion, Contains-append_right}
use Rattle.std.proofs.lemmas.Slice.Eq.{bytes_eq-Decides}
use Rattle.std.proofs.lemmas.Bool.{and_parts, not-true}
use Rattle.strip_words.specs.Words.{Word, Command, Item, Operand, Joined, Apart, Flag, IsPlain, BelongsTo}
use Rattle.strip_words.specs.Reader.{Begins, is_option_name, has_names}
use Rattle.strip_model.proofs.Lists.{any_from, contains_here, contains_later}

-- two hyphens and more, no equals sign
pub record IsName (word : Word) : Type 0 where
  pub third : ℕ
  pub more : Word
  pub begins : word ≡ 45 ∷ 45 ∷ third ∷ more
  pub lacks : ¬ Contains word 61

pub record HasNames (command : Command) : Type 0 where
  pub valued : All IsName command.valued
  pub flags : All IsName command.flags
  pub apart : (word : Word) → Contains command.valued word → ¬ Contains command.flags word

all_passes : {X : Type 0} (p : X → Bool) (P : X → Type 0) (xs : List X) → ((x : X) → p x ≡ true → P x) → list_all p xs ≡ true → All P xs
all_passes {X} p P xs holds is = All-from_recursion P xs (by xs is)
  where
    by : (xs : List X) → list_all p xs ≡ true → AllByRecursion P xs
    by [] is = tt
    by (x ∷ xs) is = let both = and_parts (p x) (list_all p xs) is in (holds x both.0, by xs both.1)

name_from : (word : Word) → is_option_name word ≡ true → IsName word
name_from word is =
    let rest = and_parts (bytes_eq (take 2 word) (codes "--") && nat_lt 2 (length word)) (not (list_any (λ byte. eqb byte 61) word)) is in
    let parts = and_parts (bytes_eq (take 2 word) (codes "--")) (nat_lt 2 (length word)) rest.0 in
    by word ((bytes_eq-Decides (take 2 word) (codes "--")).0 parts.0) parts.1 (λ there. true≢false (sym (any_from (λ byte. eqb byte 61) word 61 there refl) ∙ not-true _ rest.1))
  where
    by : (word : Word) → take 2 word ≡ codes "--" → nat_lt 2 (length word) ≡ true → (¬ Contains word 61) → IsName word
    by [] same long lacks = absurd (true≢false (sym long))
    by (a ∷ []) same long lacks = absurd (true≢false (sym long))
    by (a ∷ b ∷ []) same long lacks = absurd (true≢false (sym long))
    by (a ∷ b ∷ third ∷ more) same long lacks = record { third = third; more = more; begins = (cc); lacks = lacks }

pub names_from : (command : Command) → has_names command ≡ true → HasNames command
names_from command is =
    let rest = and_parts (list_all is_option_name command.valued && list_all is_option_name command.flags) (not (list_any (λ flag. list_any (bytes_eq flag) command.valued) command.flags)) is in
    let parts = and_parts (list_all is_option_name command.valued) (list_all is_option_name command.flags) rest.0 in
    record {
      valued = all_passes is_option_name IsName command.valued name_from parts.0;
      flags = all_passes is_option_name IsName command.flags name_from parts.1;
      apart = λ word valued flag. true≢false (
          sym (any_from (λ flag. list_any (bytes_eq flag) command.valued) command.flags word flag
          (any_from (bytes_eq word) command.valued word valued ((bytes_eq-Decides word word).1 refl)))
          ∙ not-true _ rest.1);
    }

-- a word is cut at its first equals sign in one way
pub same_cut : (a x b y : Word) → (¬ Contains a 61) → (¬ Contains b 61) → a ++ 61 ∷ x ≡ b ++ 61 ∷ y → (a ≡ b) × (x ≡ y)
same_cut [] x [] y lacks other same = (refl, (cc))
same_cut [] x (d ∷ b) y lacks other same = let is : d ≡ 61 = cc in absurd (other (subst (λ e. Contains (d ∷ b) e) is (contains_here d b)))
same_cut (c ∷ a) x [] y lacks other same = let is : c ≡ 61 = cc in absurd (lacks (subst (λ e. Contains (c ∷ a) e) is (contains_here c a)))
same_cut (c ∷ a) x (d ∷ b) y lacks other same =
    let head : c ≡ d = cc in
    let tail : a ++ 61 ∷ x ≡ b ++ 61 ∷ y = cc in
    let rest = same_cut a x b y (λ there. lacks (contains_later c a 61 there)) (λ there. other (contains_later d b 61 there)) tail in
    let names = rest.0 in
    let values = rest.1 in
    ((cc), values)

pub has_equals : (name value : Word) → Contains (name ++ 61 ∷ value) 61
has_equals name value = Contains-append_right name (61 ∷ value) 61 (contains_here 61 value)

not_operand : (name word : Word) → IsName name → (more : Word) → word ≡ name ++ more → IsPlain word ⊎ (word ≡ codes "-") → ⊥
not_operand name word is more same operand = by word (same ∙ ap (λ (n : Word). n ++ more) is.begins) operand
  where
    by : (word : Word) → word ≡ 45 ∷ 45 ∷ is.third ∷ is.more ++ more → IsPlain word ⊎ (word ≡ codes "-") → ⊥
    by [] same operand = absurd (cc)
    by (first ∷ rest) same (inl plain) = plain (cc)
    by (first ∷ rest) same (inr hyphen) = absurd (cc)

not_joined : (name : Word) → IsName name → (option value : Word) → name ≡ option ++ 61 ∷ value → ⊥
not_joined name is option value same = is.lacks (subst (λ (n : Word). Contains n 61) (sym same) (has_equals option value))

not_short : (name : Word) → IsName name → (more : Word) → name ++ more ≡ codes "--" → ⊥
not_short name is more same = let begins = ap (λ (n : Word). n ++ more) (sym is.begins) ∙ same in absurd (cc)

module _ (command : Command) (names : HasNames command) where
  pub valued_is : (name : Word) → Contains command.valued name → IsName name
  valued_is name there = All-contains IsName command.valued name names.valued there

  flag_is : (name : Word) → Contains command.flags name → IsName name
  flag_is name there = All-contains IsName command.flags name names.flags there

  -- nothing begins with `--`
  pub not_end : (words : List Word) (item : Item) (later : List Word) → Begins command (codes "--" ∷ words) item later → ⊥
  not_end words (Operand word) later is = ends word is.belongs (let same = is.begins in cc)
    where
      ends : (word : Word) → IsPlain word ⊎ (word ≡ codes "-") → word ≡ codes "--" → ⊥
      ends [] operand same = absurd (cc)
      ends (first ∷ rest) (inl plain) same = plain (cc)
      ends (first ∷ rest) (inr hyphen) same = absurd (cc)
  not_end words (Joined name value) later is = not_short name (valued_is name is.belongs.0) (61 ∷ value) (let same = is.begins in cc)
  not_end words (Apart name value) later is = not_short name (valued_is name is.belongs.0) [] (let same = is.begins in let all = append-nil name in cc)
  not_end words (Flag name) later is = not_short name (flag_is name is.belongs) [] (let same = is.begins in let all = append-nil name in cc)

  -- words begin with one item
  pub begins_once : (words : List Word) (a b : Item) (x y : List Word) → Begins command words a x → Begins command words b y → (a ≡ b) × (x ≡ y)
  begins_once words (Operand word) (Operand other) x y one two = let p = one.begins in let q = two.begins in let w : word ≡ other = cc in (ap Operand w, (cc))
  begins_once words (Operand word) (Joined name value) x y one two =
      let same : word ≡ name ++ 61 ∷ value = (let p = one.begins in let q = two.begins in cc) in
      absurd (not_operand name word (valued_is name two.belongs.0) (61 ∷ value) same one.belongs)
  begins_once words (Operand word) (Apart name value) x y one two =
      absurd (not_operand name word (valued_is name two.belongs.0) [] (let p = one.begins in let q = two.begins in let all = append-nil name in cc) one.belongs)
  begins_once words (Operand word) (Flag name) x y one two =
      absurd (not_operand name word (flag_is name two.belongs) [] (let p = one.begins in let q = two.begins in let all = append-nil name in cc) one.belongs)
  begins_once words (Joined name value) (Operand word) x y one two =
      absurd (not_operand name word (valued_is name one.belongs.0) (61 ∷ value) (let p = one.begins in let q = two.begins in cc) two.belongs)
  begins_once words (Joined name value) (Joined option given) x y one two =
      let same : name ++ 61 ∷ value ≡ option ++ 61 ∷ given = (let p = one.begins in let q = two.begins in cc) in
      let cut = same_cut name value option given (valued_is name one.belongs.0).lacks (valued_is option two.belongs.0).lacks same in
      (ap₂ Joined cut.0 cut.1, (let p = one.begins in let q = two.begins in cc))
  begins_once words (Joined name value) (Apart option given) x y one two =
      absurd (not_joined option (valued_is option two.belongs.0) name value (let p = one.begins in let q = two.begins in cc))
  begins_once words (Joined name value) (Flag option) x y one two =
      absurd (not_joined option (flag_is option two.belongs) name value (let p = one.begins in let q = two.begins in cc))
  begins_once words (Apart name value) (Operand word) x y one two =
      absurd (not_operand name word (valued_is name one.belongs.0) [] (let p = one.begins in let q = two.begins in let all = append-nil name in cc) two.belongs)
  begins_once words (Apart name value) (Joined option given) x y one two =
      absurd (not_joined name (valued_is name one.belongs.0) option given (let p = one.begins in let q = two.begins in cc))
  begins_once words (Apart name value) (Apart option given) x y one two =
      let p = one.begins in let q = two.begins in let options : name ≡ option = cc in let values : value ≡ given = cc in (ap₂ Apart options values, (cc))
  begins_once words (Apart name value) (Flag option) x y one two =
      let p = one.begins in let q = two.begins in let same : name ≡ option = cc in
      absurd (names.apart option (subst (Contains command.valued) same one.belongs.0) two.belongs)
  begins_once words (Flag name) (Operand word) x y one two =
      absurd (not_operand name word (flag_is name one.belongs) [] (let p = one.begins in let q = two.begins in let all = append-nil name in cc) two.belongs)
  begins_once words (Flag name) (Joined option given) x y one two =
      absurd (not_joined name (flag_is name one.belongs) option given (let p = one.begins in let q = two.begins in cc))
  begins_once words (Flag name) (Apart option given) x y one two =
      let p = one.begins in let q = two.begins in let same : option ≡ name = cc in
      absurd (names.apart name (subst (Contains command.valued) same two.belongs.0) one.belongs)
  begins_once words (Flag name) (Flag option) x y one two = let p = one.begins in let q = two.begins in let same : name ≡ option = cc in (ap Flag same, (cc))

  -- behind an option that has a value, its value comes
  pub not_apart : (word : Word) (later : List Word) → ((IsPlain word ⊎ (word ≡ codes "-")) → ⊥) → (¬ Contains command.flags word) → Contains command.valued word
      → ((value : Word) (behind : List Word) → later ≡ value ∷ behind → ¬ IsPlain value)
      → (item : Item) (behind : List Word) → ¬ Begins command (word ∷ later) item behind
  not_apart word later operand flag valued none (Operand other) behind is =
      let same : other ≡ word = (let p = is.begins in cc) in operand (subst (λ (w : Word). IsPlain w ⊎ (w ≡ codes "-")) same is.belongs)
  not_apart word later operand flag valued none (Joined name value) behind is = not_joined word (valued_is word valued) name value (let p = is.begins in cc)
  not_apart word later operand flag valued none (Apart name value) behind is = none value behind (let p = is.begins in cc) is.belongs.1
  not_apart word later operand flag valued none (Flag name) behind is =
      let same : name ≡ word = (let p = is.begins in cc) in flag (subst (Contains command.flags) same is.belongs)

-- what is neither an operand nor an option is cut
pub not_cut : (command : Command) (word : Word) (later : List Word) → ((IsPlain word ⊎ (word ≡ codes "-")) → ⊥) → (¬ Contains command.flags word) → (¬ Contains command.valued word)
    → ((name value : Word) → word ≡ name ++ 61 ∷ value → ¬ BelongsTo command (Joined name value))
    → (item : Item) (behind : List Word) → ¬ Begins command (word ∷ later) item behind
not_cut command word later operand flag valued none (Operand other) behind is =
    let same : other ≡ word = (let p = is.begins in cc) in operand (subst (λ (w : Word). IsPlain w ⊎ (w ≡ codes "-")) same is.belongs)
not_cut command word later operand flag valued none (Joined name value) behind is = none name value (let p = is.begins in cc) is.belongs
not_cut command word later operand flag valued none (Apart name value) behind is =
    let same : name ≡ word = (let p = is.begins in cc) in valued (subst (Contains command.valued) same is.belongs.0)
not_cut command word later operand flag valued none (Flag name) behind is =
    let same : name ≡ word = (let p = is.begins in cc) in flag (subst (Contains command.flags) same is.belongs)
