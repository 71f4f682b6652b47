-- The checks of an instance text in the order in which its faults are told, over its parts.
use Rattle.std.specs.Prelude.{ℕ, ◌+◌, Bool, false, not, ◌==◌, ◌&&◌, nat_lt, List, [], ◌∷◌, ◌++◌, length, map, take, filter, codes, Option, None, Some, if◌then◌else◌}
use Rattle.std.specs.List.{list_any}
use Rattle.std.specs.Str.{bytes_eq, is_utf8}
use Rattle.strip_model.specs.declared.pair.Pair.{Pair}
use Rattle.strip_text.specs.Field.{Field}
use Rattle.strip_text.specs.Number.{is_number}
use Rattle.strip_text.specs.Rows.{Row, field_of, is_empty_row, row_of}
use Rattle.strip_text.specs.Checks.{check, checks_of_one, below}
use Rattle.strip_instance.specs.Fault.{FaultData, Empty, BadHeader, NoRateRow, Width, BadName, DuplicateScene, DuplicateActor, BadDays, BadRate, BadHold, BadMark, BadBefore, Cycle, NoScene, TooManyScenes, TooManyActors, NotUtf8}
use Rattle.strip_instance.specs.Field.{is_word, is_name, is_scene_name, is_mark}
use Rattle.strip_instance.specs.Parts.{Parts, parts_of, actor_fields}
use Rattle.strip_instance.specs.Befores.{pairs_of, said_pair, shortest_way}
use Rattle.strip_instance.specs.Checks.{Checks}

-- one of the names is this one
abbrev pub contains : List Field → Field → Bool
contains names name = list_any (bytes_eq name) names

-- the header: its first two words, and then each actor's name
abbrev pub is_header : Row → Bool
is_header row = is_word (codes "scene") (field_of row 0) && is_word (codes "days") (field_of row 1)

abbrev pub actor_name_checks : List Field → ℕ → Checks
actor_name_checks names actor =
    check (nat_lt actor 64) TooManyActors
    ∷ check (is_utf8 (field_of names actor)) (NotUtf8 1 (actor + 3))
    ∷ check (is_name (field_of names actor)) (BadName 1 (actor + 3))
    ∷ check (not (contains (take actor names) (field_of names actor))) (DuplicateActor (actor + 3))
    ∷ []

abbrev pub header_checks : Row → Checks
header_checks header =
    check (is_header header) BadHeader
    ∷ below (length (actor_fields header)) (actor_name_checks (actor_fields header))

-- each rate of a row; one that is no rate has this fault at its column
abbrev pub rate_check : (ℕ → FaultData) → Row → ℕ → Checks
rate_check fault row actor = checks_of_one (is_number 0 1_000_000_000 (field_of (actor_fields row) actor))
    (fault (actor + 3))

abbrev pub rate_checks : (ℕ → FaultData) → Row → Checks
rate_checks fault row = below (length (actor_fields row)) (rate_check fault row)

-- a row of rates with this number: as many fields as the header, and then each rate
abbrev pub pay_row_checks : (ℕ → FaultData) → Row → ℕ → Row → Checks
pay_row_checks fault header number row = check (length row == length header) (Width number) ∷ rate_checks fault row

-- the rates: the first word, and then the row
abbrev pub rate_row_checks : Row → Row → Checks
rate_row_checks header rates = check (is_word (codes "rate")
    (field_of rates 0)) NoRateRow ∷ pay_row_checks BadRate header 2 rates

-- the hold rates, where they have a row
abbrev pub hold_row_checks : Row → Option Row → Checks
hold_row_checks header None = []
hold_row_checks header (Some hold) = pay_row_checks BadHold header 3 hold

-- the rates, and then the hold rates
abbrev pub pay_checks : Parts → Checks
pay_checks parts = rate_row_checks parts.header parts.rates ++ hold_row_checks parts.header parts.hold

-- the rows of scenes: a row whose fields are all empty is passed over
abbrev pub scene_rows : List Row → List Row
scene_rows rows = filter (λ row. not (is_empty_row row)) rows

-- each mark of a scene's row with this number
abbrev pub mark_check : ℕ → Row → ℕ → Checks
mark_check number row actor = checks_of_one (is_mark (field_of (actor_fields row) actor)) (BadMark number (actor + 3))

abbrev pub mark_checks : ℕ → Row → Checks
mark_checks number row = below (length (actor_fields row)) (mark_check number row)

-- a scene's row with this number, where these are the rows of the scenes before it
abbrev pub scene_checks : Row → List Row → ℕ → Row → Checks
scene_checks header earlier number row =
    check (nat_lt (length earlier) 200) TooManyScenes
    ∷ check (length row == length header) (Width number)
    ∷ check (is_utf8 (field_of row 0)) (NotUtf8 number 1)
    ∷ check (is_scene_name (field_of row 0)) (BadName number 1)
    ∷ check (not (contains (map (λ other. field_of other 0) earlier) (field_of row 0))) (DuplicateScene number)
    ∷ check (is_number 1 99 (field_of row 1)) (BadDays number)
    ∷ mark_checks number row

-- a row of the body with this number, where these are the rows of the body before it
abbrev pub row_checks : Row → List Row → ℕ → Row → Checks
row_checks header earlier number row = if is_empty_row row then [] else scene_checks header
    (scene_rows earlier) number row

-- the row at a place of the body, of which the first has this number
abbrev pub body_checks : Row → ℕ → List Row → ℕ → Checks
body_checks header first body place = row_checks header (take place body) (first + place) (row_of body place)

-- each of the rows of the scenes
abbrev pub scenes_checks : Row → ℕ → List Row → Checks
scenes_checks header first body = below (length body) (body_checks header first body)

-- the names of the scenes
abbrev pub scene_names : List Row → List Field
scene_names body = map (λ row. field_of row 0) (scene_rows body)

-- no way leads back from the second scene of a pair to its first; the fault tells the way and its scenes' names
abbrev pub way_checks : List Field → ℕ → Option (List ℕ) → Checks
way_checks names number None = []
way_checks names number (Some scenes) = check false (Cycle number scenes (map (field_of names) scenes)) ∷ []

-- a row says a pair that makes no cycle with those of earlier rows
abbrev pub pair_checks : List Field → List Pair → ℕ → Option Pair → Checks
pair_checks names pairs number None = check false (BadBefore number) ∷ []
pair_checks names pairs number (Some pair) = way_checks names number
    (shortest_way (length names) pairs pair.then pair.first)

-- a row behind those of the scenes, with this number, where these are the pairs of the rows before it
abbrev pub before_checks : List Field → List Pair → ℕ → Row → Checks
before_checks names pairs number row = if is_empty_row row then [] else pair_checks names pairs number
    (said_pair names row)

-- the row at a place of these rows, of which the first has this number
abbrev pub later_checks : List Field → ℕ → List Row → ℕ → Checks
later_checks names first rows place = before_checks names (pairs_of names (take place rows)) (first
    + place) (row_of rows place)

abbrev pub befores_checks : List Field → ℕ → List Row → Checks
befores_checks names first rows = below (length rows) (later_checks names first rows)

-- one of the rows is a scene's
abbrev pub some_scene_checks : List Row → Checks
some_scene_checks body = check (nat_lt 0 (length (scene_rows body))) NoScene ∷ []

-- the rows of the scenes, then those behind them, and last that there is a scene
abbrev pub body_parts_checks : Row → ℕ → List Row → List Row → Checks
body_parts_checks header first scenes befores =
    scenes_checks header first scenes ++ befores_checks (scene_names scenes) (first + length scenes) befores
    ++ some_scene_checks scenes

abbrev pub parts_checks : Parts → Checks
parts_checks parts = header_checks parts.header ++ pay_checks parts
    ++ body_parts_checks parts.header parts.first parts.scenes parts.befores

-- all checks of a text's rows; a row of rates that is missing counts as one without fields, so it lacks the word `rate`
abbrev pub all_checks : List Row → Checks
all_checks [] = check false Empty ∷ []
all_checks (header ∷ rows) = parts_checks (parts_of (header ∷ rows))
