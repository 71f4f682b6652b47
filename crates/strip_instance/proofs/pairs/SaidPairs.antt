-- The pairs that rows say, row by row.
use Rattle.std.proofs.Common.{◌≡◌, ◌<◌, ◌||◌, ℕ, Bool, true, false, not, cond, eqb, ltb, List, [], ◌∷◌, ◌++◌, length, filter, filter_map, map, ◌+◌, Option, None, Some, refl, sym, ap, ◌∙◌, subst, inl, inr, arith, if◌then◌else◌}
use Rattle.std.specs.List.{list_any, position, position_or_len}
use Rattle.std.specs.Str.{bytes_eq}
use Rattle.std.proofs.lemmas.Bool.{and_parts, cases_Bool, cond-true, cond-false, eqb-true, ltb-true, eq-eqb, false≢true}
use Rattle.std.specs.String.{string_bytes}
use Rattle.std.proofs.lemmas.List.{append-nil, length-map}
use Rattle.std.proofs.lemmas.List.Elements.{filter-append, filter_map-append}
use Rattle.std.proofs.lemmas.Map.Views.{any-filter_same}
use Rattle.strip_model.specs.declared.pair.Pair.{Pair}
use Rattle.strip_model.specs.Pairs.{IsKnownPair}
use Rattle.strip_model.specs.declared.scene.Scene.{Scene}
use Rattle.strip_model.specs.Data.{SceneData}
use Rattle.strip_model.specs.Instance.{scene_data}
use Rattle.strip_text.specs.Field.{Field}
use Rattle.strip_text.specs.Rows.{Row, field_of, is_empty_row}
use Rattle.strip_instance.specs.Befores.{each_once, joined, number_of_scene, pair_between, pairs_of, said_pair, same_pair}
use Rattle.strip_instance.specs.Shown.{names_of}
use Rattle.strip_instance.proofs.pairs.Ways.{same_pair-true, same_pair-refl}

-- the pairs but for those that are the same as this one
abbrev but : Pair → List Pair → List Pair
but pair pairs = filter (λ other. not (same_pair pair other)) pairs

-- a pair that is joined to others behind a pair
joined-same : (x y : Pair) (xs : List Pair) (there : Bool) → same_pair x y ≡ true → list_any (same_pair x) xs ≡ there
    → y ∷ but y (joined xs (Some x)) ≡ joined (y ∷ but y xs) (Some x)
joined-same x y xs true same is =
    ap (λ (b : Bool). y ∷ but y (if b then xs else xs ++ x ∷ [])) is
    ∙ sym (ap (λ (b : Bool). if b || list_any (same_pair x) (but y xs) then y ∷ but y xs else (y ∷ but y xs) ++ x ∷ []) same)
joined-same x y xs false same is =
    let equal : x ≡ y = same_pair-true x y same in
    let out : but y (x ∷ []) ≡ [] = cond-false (not (same_pair y x)) (x ∷ []) [] (ap not (subst (λ p. same_pair y p ≡ true) (sym equal) (same_pair-refl y))) in
    ap (λ (b : Bool). y ∷ but y (if b then xs else xs ++ x ∷ [])) is
    ∙ ap (λ (list : List Pair). y ∷ list) (filter-append (λ other. not (same_pair y other)) xs (x ∷ []) ∙ ap (λ (list : List Pair). but y xs ++ list) out ∙ append-nil (but y xs))
    ∙ sym (ap (λ (b : Bool). if b || list_any (same_pair x) (but y xs) then y ∷ but y xs else (y ∷ but y xs) ++ x ∷ []) same)

-- a pair other than the one doesn't count for those that are the same as the one
other_passes : (x y other : Pair) → same_pair x y ≡ false → same_pair x other ≡ true → not (same_pair y other) ≡ true
other_passes x y other differ same = elim (cases_Bool (same_pair y other)) [
  | inl alike ↦ (let one : x ≡ other = same_pair-true x other same in
      let two : y ≡ other = same_pair-true y other alike in
      absurd (false≢true (sym differ ∙ subst (λ p. same_pair x p ≡ true) (one ∙ sym two) (same_pair-refl x))))
  | inr apart ↦ ap not apart
]

joined-other : (x y : Pair) (xs : List Pair) (there : Bool) → same_pair x y ≡ false → list_any (same_pair x) xs ≡ there
    → y ∷ but y (joined xs (Some x)) ≡ joined (y ∷ but y xs) (Some x)
joined-other x y xs there differ is =
    let among : (same_pair x y || list_any (same_pair x) (but y xs)) ≡ there
    = ap (λ b. b || list_any (same_pair x) (but y xs)) differ
    ∙ any-filter_same (same_pair x) (λ other. not (same_pair y other)) true (λ other same. other_passes x y other differ same) xs ∙ is in
    ap (λ (b : Bool). y ∷ but y (if b then xs else xs ++ x ∷ [])) is
    ∙ by_cases there
    ∙ sym (ap (λ (b : Bool). if b then y ∷ but y xs else (y ∷ but y xs) ++ x ∷ []) among)
  where
    kept : (x y : Pair) → same_pair x y ≡ false → but y (x ∷ []) ≡ x ∷ []
    kept x y differ = cond-true (not (same_pair y x)) (x ∷ []) [] (other_passes x y x differ (same_pair-refl x))

    by_cases : (b : Bool) → y ∷ but y (if b then xs else xs ++ x ∷ []) ≡ (if b then y ∷ but y xs else (y ∷ but y xs) ++ x ∷ [])
    by_cases true = refl
    by_cases false = ap (λ (list : List Pair). y ∷ list) (filter-append (λ other. not (same_pair y other)) xs (x ∷ []) ∙ ap (λ (list : List Pair). but y xs ++ list) (kept x y differ))

each_once-push : (xs : List Pair) (x : Pair) → each_once (xs ++ x ∷ []) ≡ joined (each_once xs) (Some x)
each_once-push [] x = refl
each_once-push (y ∷ ys) x =
    ap (λ (list : List Pair). y ∷ but y list) (each_once-push ys x)
    ∙ elim (cases_Bool (same_pair x y)) [
      | inl same ↦ joined-same x y (each_once ys) (list_any (same_pair x) (each_once ys)) same refl
      | inr differ ↦ joined-other x y (each_once ys) (list_any (same_pair x) (each_once ys)) differ refl
    ]

-- the pairs of one row more
pub pairs_of-push : (names : List Field) (rows : List Row) (row : Row) (said : Option Pair) → said_pair names row ≡ said
    → pairs_of names (rows ++ row ∷ []) ≡ joined (pairs_of names rows) said
pairs_of-push names rows row None is =
    ap each_once (filter_map-append (said_pair names) rows (row ∷ []) ∙ ap (λ (list : List Pair). filter_map (said_pair names) rows ++ list) (rw is refl) ∙ append-nil _)
pairs_of-push names rows row (Some pair) is =
    ap each_once (filter_map-append (said_pair names) rows (row ∷ []) ∙ ap (λ (list : List Pair). filter_map (said_pair names) rows ++ list) (rw is refl))
    ∙ each_once-push (filter_map (said_pair names) rows) pair

-- a place that is found is one of the list
found_within : (names : List Field) (name : Field) (place : ℕ) → number_of_scene names name ≡ Some place → place < length names
found_within names name place is = elim (cases_Bool (ltb (position_or_len (λ other. bytes_eq other name) names) (length names))) [
  | inl within ↦ (let at = position_or_len (λ other. bytes_eq other name) names in
      let found : Some at ≡ Some place = sym (cond-true (ltb at (length names)) (Some at) None within) ∙ is in
      let same : at ≡ place = cc in
      subst (λ i. i < length names) same (ltb-true at (length names) within))
  | inr none ↦ (let at = position_or_len (λ other. bytes_eq other name) names in
      let never : None ≡ Some place = sym (cond-false (ltb at (length names)) (Some at) None none) ∙ is in absurd (cc))
]

between_known : (n : ℕ) (first second : Option ℕ) (pair : Pair) → ((place : ℕ) → first ≡ Some place → place < n) → ((place : ℕ) → second ≡ Some place → place < n)
    → pair_between first second ≡ Some pair → IsKnownPair n pair
between_known n None second pair one two is = absurd (cc)
between_known n (Some a) None pair one two is = absurd (cc)
between_known n (Some a) (Some b) pair one two is = elim (cases_Bool (eqb a b)) [
  | inl same ↦ (let never : None ≡ Some pair = sym (cond-true (eqb a b) None (Some (record { first = a; then = b })) same) ∙ is in absurd (cc))
  | inr differ ↦ (let made : Some (record { first = a; then = b }) ≡ Some pair = sym (cond-false (eqb a b) None (Some (record { first = a; then = b })) differ) ∙ is in
      let its : record { first = a; then = b } ≡ pair = cc in
      subst (IsKnownPair n) its (one a refl, two b refl, λ equal. false≢true (sym differ ∙ eq-eqb a b equal)))
]

-- what is told under a test
told_under : (b : Bool) (said : Option Pair) (pair : Pair) → (if b then said else None) ≡ Some pair → said ≡ Some pair
told_under true said pair is = is
told_under false said pair is = absurd (cc)

-- a pair that is said is one of two different scenes
pub said-known : (names : List Field) (row : Row) (pair : Pair) → said_pair names row ≡ Some pair → IsKnownPair (length names) pair
said-known names row pair is =
    between_known (length names) (number_of_scene names (field_of row 1)) (number_of_scene names (field_of row 2)) pair
    (found_within names (field_of row 1)) (found_within names (field_of row 2))
    (told_under _ (pair_between (number_of_scene names (field_of row 1)) (number_of_scene names (field_of row 2))) pair is)

-- a row of empty fields says none
pub empty_says_none : (names : List Field) (row : Row) → is_empty_row row ≡ true → said_pair names row ≡ None
empty_says_none names [] empty = refl
empty_says_none names ([] ∷ fields) empty = refl
empty_says_none names ((byte ∷ bytes) ∷ fields) empty =
    let none : length (byte ∷ bytes) ≡ 0 = eqb-true (length (byte ∷ bytes)) 0 (and_parts (eqb (length (byte ∷ bytes)) 0) (is_empty_row fields) empty).0 in
    absurd (omega (arith, none))

-- the place of a name among those of a list
position_or_len-map : {X Y : Type 0} (f : X → Y) (test : Y → Bool) (xs : List X) → position_or_len (λ x. test (f x)) xs ≡ position_or_len test (map f xs)
position_or_len-map f test [] = refl
position_or_len-map f test (x ∷ xs) = ap (λ n. cond (not (test (f x))) (1 + n) 0) (position_or_len-map f test xs)

pub number-by_names : (scenes : List Scene) (name : Field)
    → position (λ scene. bytes_eq (string_bytes scene.name) name) scenes ≡ number_of_scene (names_of scenes) name
number-by_names scenes name =
    let seen = map scene_data scenes in
    let place : position_or_len (λ (scene : Scene). bytes_eq (string_bytes scene.name) name) scenes ≡ position_or_len (λ other. bytes_eq other name) (names_of scenes)
    = position_or_len-map scene_data (λ (scene : SceneData). bytes_eq scene.name name) scenes
    ∙ position_or_len-map (λ (scene : SceneData). scene.name) (λ other. bytes_eq other name) seen in
    let count : length scenes ≡ length (names_of scenes) = sym (length-map seen (λ (scene : SceneData). scene.name) ∙ length-map scenes scene_data) in
    λ i. cond (ltb (place i) (count i)) (Some (place i)) None
