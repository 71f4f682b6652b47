-- The values that items give.
use Rattle.std.proofs.Common.{◌≡◌, ◌↔◌, ℕ, ◌≤◌, Bool, true, false, not, IsTrue, IfNone, IfSome, is_some, true≢false, Bor, Option, None, Some, List, [], ◌∷◌, length, All, Any, Contains, take, take_all, inl, inr, refl, sym, ap, ◌∙◌, subst}
use Rattle.std.specs.List.{cons_option}
use Rattle.strip_words.specs.declared.item.Item.{Item as CodeItem}
use Rattle.strip_words.specs.Words.{Word, Item, Operand, Joined, Apart, Flag, option_of, options_in, AreDistinct}
use Rattle.strip_words.specs.Options.{Gives, IsLeftOut, IsNumber, NumberOption, FreeOption, ChoiceOption, IsChosen, IsGiven, IsPicked}
use Rattle.strip_words.specs.Shown.{item_data, items_data}
use Rattle.strip_words.proofs.Members.{any_none, any_cases, any_map, any_kept, any_weaker}

gives_option : (name value : Word) (item : Item) → Gives name value item → option_of item ≡ Some name
gives_option name value (Operand word) gives = absurd gives
gives_option name value (Joined option given) gives = ap Some gives.0
gives_option name value (Apart option given) gives = ap Some gives.0
gives_option name value (Flag option) gives = absurd gives

gives_same : (name a b : Word) (item : Item) → Gives name a item → Gives name b item → a ≡ b
gives_same name a b (Operand word) one two = absurd one
gives_same name a b (Joined option given) one two = sym one.1 ∙ two.1
gives_same name a b (Apart option given) one two = sym one.1 ∙ two.1
gives_same name a b (Flag option) one two = absurd one

option_given : (name value : Word) (items : List Item) → Any (Gives name value) items → Contains (options_in items) name
option_given name value items some =
    (any_kept option_of items name).0 (any_weaker (Gives name value) (λ item. option_of item ≡ Some name) items (gives_option name value) some)

distinct_head : (o : Option Word) (names : List Word) (name : Word) → AreDistinct (cons_option o names) → o ≡ Some name → ¬ Contains names name
distinct_head None names name distinct is = absurd (cc)
distinct_head (Some first) names name distinct is = let same : first ≡ name = cc in subst (λ (w : Word). ¬ Contains names w) same distinct.0

distinct_tail : (o : Option Word) (names : List Word) → AreDistinct (cons_option o names) → AreDistinct names
distinct_tail None names distinct = distinct
distinct_tail (Some first) names distinct = distinct.1

-- an option that stands once is given one value
pub given_once : (name a b : Word) (items : List Item) → AreDistinct (options_in items) → Any (Gives name a) items → Any (Gives name b) items → a ≡ b
given_once name a b [] distinct one two = absurd (any_none (Gives name a) one)
given_once name a b (item ∷ items) distinct one two = elim (any_cases (Gives name a) item items one) [
  | inl here ↦ elim (any_cases (Gives name b) item items two) [
    | inl also ↦ gives_same name a b item here also
    | inr later ↦ absurd (distinct_head (option_of item) (options_in items) name distinct (gives_option name a item here) (option_given name b items later))
  ]
  | inr later ↦ elim (any_cases (Gives name b) item items two) [
    | inl here ↦ absurd (distinct_head (option_of item) (options_in items) name distinct (gives_option name b item here) (option_given name a items later))
    | inr after ↦ given_once name a b items (distinct_tail (option_of item) (options_in items) distinct) later after
  ]
]

-- no item gives a value
pub left_out : (name : Word) (items : List CodeItem) (n : ℕ) → length items ≤ n
    → All (λ item. (value : Word) → ¬ Gives name value (item_data item)) (take n items) → IsLeftOut name (items_data items)
left_out name items n end none value some =
    let P : CodeItem → Type 0 = λ item. (value : Word) → ¬ Gives name value (item_data item) in
    let found = (any_map (Gives name value) item_data items).1 some in
    subst (All P) (take_all n items end) none found.0 found.1 found.2 value (subst (λ item. Gives name value (item_data item)) (sym found.3) found.4)

-- an option is left out just where no value of it was found
pub none_found : (name : Word) (items : List Item) (found : Option (Bor Word)) (none : Bool) → is_some found ≡ not none
    → IfSome found (λ value. Any (Gives name value.now) items) → IfNone found (IsLeftOut name items) → IsTrue none ↔ IsLeftOut name items
none_found name items None true is some left = (λ _. left, λ _. refl)
none_found name items None false is some left = absurd (true≢false (sym is))
none_found name items (Some value) true is some left = absurd (true≢false is)
none_found name items (Some value) false is some left = (λ is. absurd (true≢false (sym is)), λ out. absurd (out value.now some))

-- what the value of an option isn't, the option isn't
pub not_chosen : (option : NumberOption) (value : Word) (items : List Item) → AreDistinct (options_in items) → Any (Gives option.name value) items
    → ((n : ℕ) → ¬ IsNumber option.least option.most value n) → (n : ℕ) → ¬ IsChosen option items n
not_chosen option value items distinct given none n (inl left) = left.0 value given
not_chosen option value items distinct given none n (inr some) =
    none n (subst (λ (w : Word). IsNumber option.least option.most w n) (given_once option.name some.0 value items distinct some.1 given) some.2)

pub not_given : (option : FreeOption) (value : Word) (items : List Item) → AreDistinct (options_in items) → Any (Gives option.name value) items
    → ((n : ℕ) → ¬ IsNumber option.least option.most value n) → (n : Option ℕ) → ¬ IsGiven option items n
not_given option value items distinct given none None left = left value given
not_given option value items distinct given none (Some n) some =
    none n (subst (λ (w : Word). IsNumber option.least option.most w n) (given_once option.name some.0 value items distinct some.1 given) some.2)

pub not_picked : (option : ChoiceOption) (value : Word) (items : List Item) → AreDistinct (options_in items) → Any (Gives option.name value) items
    → (¬ Contains option.choices value) → (word : Word) → ¬ IsPicked option items word
not_picked option value items distinct given absent word (inl left) = left.0 value given
not_picked option value items distinct given absent word (inr some) =
    absent (subst (Contains option.choices) (given_once option.name word value items distinct some.0 given) some.1)

-- an option says one thing
pub chosen_once : (option : NumberOption) (items : List Item) (a b : ℕ) → AreDistinct (options_in items)
    → IsChosen option items a → IsChosen option items b → a ≡ b
chosen_once option items a b distinct (inl one) (inl two) = one.1 ∙ sym two.1
chosen_once option items a b distinct (inl one) (inr two) = absurd (one.0 two.0 two.1)
chosen_once option items a b distinct (inr one) (inl two) = absurd (two.0 one.0 one.1)
chosen_once option items a b distinct (inr one) (inr two) =
    let same : one.0 ≡ two.0 = given_once option.name one.0 two.0 items distinct one.1 two.1 in
    let a_is = one.2.value in
    let b_is = two.2.value in
    cc

pub given_number_once : (option : FreeOption) (items : List Item) (a b : Option ℕ) → AreDistinct (options_in items)
    → IsGiven option items a → IsGiven option items b → a ≡ b
given_number_once option items None None distinct one two = refl
given_number_once option items None (Some b) distinct one two = absurd (one two.0 two.1)
given_number_once option items (Some a) None distinct one two = absurd (two one.0 one.1)
given_number_once option items (Some a) (Some b) distinct one two =
    let same : one.0 ≡ two.0 = given_once option.name one.0 two.0 items distinct one.1 two.1 in
    let a_is = one.2.value in
    let b_is = two.2.value in
    cc

pub picked_once : (option : ChoiceOption) (items : List Item) (a b : Word) → AreDistinct (options_in items)
    → IsPicked option items a → IsPicked option items b → a ≡ b
picked_once option items a b distinct (inl one) (inl two) = one.1 ∙ sym two.1
picked_once option items a b distinct (inl one) (inr two) = absurd (one.0 b two.0)
picked_once option items a b distinct (inr one) (inl two) = absurd (two.0 a one.0)
picked_once option items a b distinct (inr one) (inr two) = given_once option.name a b items distinct one.0 two.0

-- the items in a slice have no option twice
pub distinct_in : (items slice : List CodeItem) → slice ≡ items → AreDistinct (options_in (items_data items)) → AreDistinct (options_in (items_data slice))
distinct_in items slice same distinct = subst (λ items. AreDistinct (options_in (items_data items))) (sym same) distinct
