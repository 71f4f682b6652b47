-- Rows that say which scene is shot before which, and the ways along their pairs.
use Rattle.std.specs.Prelude.{ℕ, zero, suc, Bool, not, ◌==◌, ◌&&◌, nat_le, List, [], ◌∷◌, ◌++◌, length, drop, filter, filter_map, Option, None, Some, option_map, if◌then◌else◌}
use Rattle.std.specs.List.{list_any, position}
use Rattle.std.specs.Option.{option_or}
use Rattle.std.specs.Str.{bytes_eq}
use Rattle.strip_model.specs.declared.pair.Pair.{Pair}
use Rattle.strip_text.specs.Field.{Field}
use Rattle.strip_text.specs.Rows.{Row, field_of, is_empty_row}
use Rattle.strip_instance.specs.Parts.{is_before_row}

-- the number of the scene with this name, where these are the names of all
abbrev pub number_of_scene : List Field → Field → Option ℕ
number_of_scene names name = position (λ other. bytes_eq other name) names

-- a pair of two different scenes
abbrev pub pair_between : Option ℕ → Option ℕ → Option Pair
pair_between None second = None
pair_between (Some first) None = None
pair_between (Some first) (Some second) = if first == second then None else Some (record { first = first; then = second })

-- the pair that a row says: behind the word the names of two different scenes, and behind these no field that isn't
-- empty
abbrev pub said_pair : List Field → Row → Option Pair
said_pair names row =
    if is_before_row row && nat_le 3 (length row) && is_empty_row (drop 3 row)
    then pair_between (number_of_scene names (field_of row 1)) (number_of_scene names (field_of row 2))
    else None

abbrev pub same_pair : Pair → Pair → Bool
same_pair a b = a.first == b.first && a.then == b.then

-- each of the pairs once, at its first place
abbrev pub each_once : List Pair → List Pair
each_once [] = []
each_once (pair ∷ pairs) = pair ∷ filter (λ other. not (same_pair pair other)) (each_once pairs)

-- the pairs that rows say, in the order of the rows; a row that says none is passed over
abbrev pub pairs_of : List Field → List Row → List Pair
pairs_of names rows = each_once (filter_map (said_pair names) rows)

-- the pairs, and behind them one that was said, where it isn't one of them
abbrev pub joined : List Pair → Option Pair → List Pair
joined pairs None = pairs
joined pairs (Some pair) = if list_any (same_pair pair) pairs then pairs else pairs ++ pair ∷ []

-- a pair of the list puts the one scene before the other
abbrev pub precedes : List Pair → ℕ → ℕ → Bool
precedes pairs first second = list_any (same_pair (record { first = first; then = second })) pairs

-- the answer of the first number below n that has one
abbrev pub first_below : {A : Type 0} → ℕ → (ℕ → Option A) → Option A
first_below zero answer = None
first_below (suc n) answer = option_or (first_below n answer) (answer n)

-- the least by scene numbers of the ways along the pairs that lead in so many steps from the one to the other of n
-- scenes
abbrev pub least_way : ℕ → List Pair → ℕ → ℕ → ℕ → Option (List ℕ)
least_way n pairs zero from to = if from == to then Some (to ∷ []) else None
least_way n pairs (suc steps) from to =
    option_map (λ later. from ∷ later) (first_below n
    (λ next. if precedes pairs from next then least_way n pairs steps next to else None))

-- the least of the ways of the fewest steps; without a cycle no way has as many steps as there are scenes
abbrev pub shortest_way : ℕ → List Pair → ℕ → ℕ → Option (List ℕ)
shortest_way n pairs from to = first_below n (λ steps. least_way n pairs steps from to)
