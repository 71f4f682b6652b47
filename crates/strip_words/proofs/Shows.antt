-- The code's lists as the definitions see them.
use Rattle.std.proofs.Common.{◌≡◌, ℕ, ◌+◌, ◌<◌, ◌≤◌, ◌-◌, true, Option, List, [], ◌∷◌, ◌++◌, length, get_or, take, drop, take_all, Contains, Bor, String, string_bytes, Global, refl, sym, ap, ap₂, ◌∙◌, arith, bytes_eq, All, flat_map, option_map, append_assoc, append-nil, add-one, subst}
use Rattle.std.specs.List.{list_any, filter_map, cons_option}
use Rattle.std.proofs.lemmas.List.{length-map, map-append}
use Rattle.std.proofs.lemmas.List.Concat.{flat_map-append}
use Rattle.std.proofs.lemmas.List.Elements.{All-push, filter_map-append}
use Rattle.std.proofs.Math.Seq.{take-suc}
use Rattle.strip_words.specs.declared.item.Item.{Item}
use Rattle.std.proofs.lemmas.List.Folds.{Any-from_list_any, list_any-from_Any}
use Rattle.std.proofs.lemmas.Slice.Eq.{bytes_eq-Decides}
use Rattle.strip_words.specs.Words.{Word, Command, Item as ItemData, IsSpelled, spelling, operand_of, operands_of}
use Rattle.strip_words.specs.Shown.{texts, strs, item_data, items_data}
use Rattle.strip_words.proofs.Members.{any_map, any_contains, any_weaker}

-- the test of a word among others
pub among_from : (words : List (Bor (List ℕ))) (word : Word) → list_any (λ other. bytes_eq other.now word) words ≡ true → Contains (strs words) word
among_from words word found =
    (any_contains (strs words) word).0
    ((any_map (λ other. other ≡ word) (λ other. other.now) words).0
    (any_weaker (λ other. bytes_eq other.now word ≡ true) (λ other. other.now ≡ word) words (λ other. (bytes_eq-Decides other.now word).0)
    (Any-from_list_any (λ other. bytes_eq other.now word) words found)))

pub among_yes : (words : List (Bor (List ℕ))) (word : Word) → Contains (strs words) word → list_any (λ other. bytes_eq other.now word) words ≡ true
among_yes words word there =
    list_any-from_Any (λ other. bytes_eq other.now word) words
    (any_weaker (λ other. other.now ≡ word) (λ other. bytes_eq other.now word ≡ true) words (λ other. (bytes_eq-Decides other.now word).1)
    ((any_map (λ other. other ≡ word) (λ other. other.now) words).1 ((any_contains (strs words) word).1 there)))

-- the first word and those behind it
texts_cut : (words : List (String Global)) (word : String Global) → 1 ≤ length words → word ≡ get_or words 0 word
    → texts words ≡ string_bytes word ∷ texts (take (length words - 1) (drop 1 words))
texts_cut [] word some is = absurd (omega (arith, some))
texts_cut (first ∷ words) word some is =
    let all : take (length (first ∷ words) - 1) words ≡ words = take_all (length (first ∷ words) - 1) words (omega arith) in
    ap₂ (λ w ws. string_bytes w ∷ texts ws) (sym is) (sym all)

pub texts_begin : (words : List (String Global)) (word : String Global) (text : Word) → 1 ≤ length words → word ≡ get_or words 0 word → string_bytes word ≡ text
    → texts words ≡ text ∷ texts (take (length words - 1) (drop 1 words))
texts_begin words word text some is same =
    texts_cut words word some is ∙ ap (λ (w : Word). w ∷ texts (take (length words - 1) (drop 1 words))) same

pub one_str : (words : List (Bor (List ℕ))) (default : Bor (List ℕ)) → length words ≡ 1 → strs words ≡ (get_or words 0 default).now ∷ []
one_str [] default one = absurd (omega (arith, one))
one_str (first ∷ []) default one = refl
one_str (first ∷ second ∷ words) default one = absurd (omega (arith, one))

pub two_strs : (words : List (Bor (List ℕ))) (one other : Bor (List ℕ)) → length words ≡ 2
    → strs words ≡ (get_or words 0 one).now ∷ (get_or words 1 other).now ∷ []
two_strs [] one other two = absurd (omega (arith, two))
two_strs (first ∷ words) one other two = ap (λ ws. first.now ∷ ws) (one_str words other (omega (arith, two)))

-- the operands that were read are as many as the command asks for
pub operand_count : (operands : List (Bor (List ℕ))) (command : Command) (words : List Word) (items : List ItemData) (rest : Option (List Word))
    → strs operands ≡ operands_of items rest → IsSpelled command words items rest → length operands ≡ command.operands
operand_count operands command words items rest same is = sym (length-map operands (λ word. word.now)) ∙ ap length same ∙ is.count

-- one item more
pub spelled_more : (items new : List Item) (item : Item) (words later behind : List Word) → new ≡ items ++ item ∷ []
    → words ≡ flat_map spelling (items_data items) ++ later → later ≡ spelling (item_data item) ++ behind → words ≡ flat_map spelling (items_data new) ++ behind
spelled_more items new item words later behind is spelled begins =
    let all : flat_map spelling (items_data new) ≡ flat_map spelling (items_data items) ++ spelling (item_data item)
    = ap (λ (xs : List Item). flat_map spelling (items_data xs)) is ∙ ap (flat_map spelling) (map-append item_data items (item ∷ []))
    ∙ flat_map-append spelling (items_data items) (item_data item ∷ []) ∙ ap (λ ws. flat_map spelling (items_data items) ++ ws) (append-nil (spelling (item_data item))) in
    spelled ∙ ap (λ ws. flat_map spelling (items_data items) ++ ws) begins ∙ sym (append_assoc (flat_map spelling (items_data items)) (spelling (item_data item)) behind)
    ∙ ap (λ ws. ws ++ behind) (sym all)

pub belong_more : (P : ItemData → Type 0) (items new : List Item) (item : Item) → new ≡ items ++ item ∷ [] → All P (items_data items) → P (item_data item) → All P (items_data new)
belong_more P items new item is all holds =
    subst (All P) (sym (map-append item_data items (item ∷ [])) ∙ ap items_data (sym is)) (All-push P (items_data items) (item_data item) all holds)

-- the operands of one item more
pub operands_more : (items : List Item) (i : ℕ) (d : Item) (r : Option (Bor Word)) → i < length items → option_map (λ word. word.now) r ≡ operand_of (item_data (get_or items i d))
    → filter_map operand_of (items_data (take (i + 1) items)) ≡ filter_map operand_of (items_data (take i items)) ++ cons_option (option_map (λ word. word.now) r) []
operands_more items i d r within is =
    let item = get_or items i d in
    ap (λ n. filter_map operand_of (items_data (take n items))) (add-one i)
    ∙ ap (λ (xs : List Item). filter_map operand_of (items_data xs)) (take-suc items i d within)
    ∙ ap (filter_map operand_of) (map-append item_data (take i items) (item ∷ []))
    ∙ filter_map-append operand_of (items_data (take i items)) (item_data item ∷ [])
    ∙ ap (λ o. filter_map operand_of (items_data (take i items)) ++ cons_option o []) (sym is)

pub strs_more : (words new : List (Bor (List ℕ))) (word : Bor (List ℕ)) → new ≡ words ++ word ∷ [] → strs new ≡ strs words ++ word.now ∷ []
strs_more words new word is = ap strs is ∙ map-append (λ word. word.now) words (word ∷ [])
