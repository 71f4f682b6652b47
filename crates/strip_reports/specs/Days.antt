-- The days of an order, and what an actor does on each; who works and who is held at a place of it, and what they get.
use Rattle.std.specs.Prelude.{ℕ, ◌+◌, ◌*◌, Bool, true, false, not, ◌&&◌, if◌then◌else◌, List, [], length, take, drop, replicate, codes, count_by, sum_by, slice_index}
use Rattle.std.specs.List.{flat_map, list_any, range_with_len}
use Rattle.strip_mask.specs.Set.{has}
use Rattle.strip_mask.specs.Sums.{sum_below}
use Rattle.strip_model.specs.Film.{FilmData}
use Rattle.strip_model.specs.Pay.{works}
use Rattle.strip_text.specs.Field.{Field}

-- ---- day by day, the days counted from 0

-- for each day of the order, who works on it: a scene of n days takes n days, and its cast works on all of them
abbrev pub crews_of : FilmData → List ℕ → List ℕ
crews_of film order = flat_map (λ scene. replicate (slice_index film.days scene) (slice_index film.casts scene)) order

-- whether the actor works on the day
abbrev pub works_on : List ℕ → ℕ → ℕ → Bool
works_on crews actor day = has (slice_index crews day) actor

-- whether he works on an earlier day
abbrev pub has_begun : List ℕ → ℕ → ℕ → Bool
has_begun crews actor day = list_any (λ crew. has crew actor) (take day crews)

-- whether he works on a later day
abbrev pub comes_back : List ℕ → ℕ → ℕ → Bool
comes_back crews actor day = list_any (λ crew. has crew actor) (drop (day + 1) crews)

-- whether he waits: he doesn't work, and the day lies between his first and his last
abbrev pub waits_on : List ℕ → ℕ → ℕ → Bool
waits_on crews actor day = not (works_on crews actor day) && (has_begun crews actor day && comes_back crews actor day)

-- the code of a day, by whether he works on it, on an earlier one and on a later one
abbrev pub code : Bool → Bool → Bool → Field
code true false false = codes "SWF"
code true false true = codes "SW"
code true true false = codes "WF"
code true true true = codes "W"
code false true true = codes "H"
code false true false = []
code false false _ = []

abbrev pub day_code : List ℕ → ℕ → ℕ → Field
day_code crews actor day = code (works_on crews actor day) (has_begun crews actor day) (comes_back crews actor day)

-- how many days he works on
abbrev pub work_days : List ℕ → ℕ → ℕ
work_days crews actor = count_by (λ crew. has crew actor) crews

-- how many days he waits on
abbrev pub hold_days : List ℕ → ℕ → ℕ
hold_days crews actor = count_by (waits_on crews actor) (range_with_len 0 (length crews))

-- ---- scene by scene

-- the scene at this place of the order, counted from 0
abbrev pub scene_at : List ℕ → ℕ → ℕ
scene_at order place = slice_index order place

-- how many numbers below n pass
abbrev pub how_many : ℕ → (ℕ → Bool) → ℕ
how_many n test = sum_below n (λ i. if test i then 1 else 0)

-- the actor works in one of the scenes at least
abbrev pub works_among : FilmData → List ℕ → ℕ → Bool
works_among film scenes actor = list_any (works film actor) scenes

-- the actor is held at this place of the order: he doesn't work there, and does in a scene before it and in one
-- behind it
abbrev pub is_held : FilmData → List ℕ → ℕ → ℕ → Bool
is_held film order place actor =
    works_among film (take place order) actor && works_among film (drop (place + 1) order) actor
    && not (works film actor (scene_at order place))

-- what an actor gets for a day: his rate where he works on it, his hold rate where he is held
abbrev pub rate_by : FilmData → Bool → Bool → ℕ → ℕ
rate_by film working held actor =
    if working then slice_index film.rates actor
    else if held then slice_index film.holds actor
    else 0

-- what he gets for a day of the scene at this place
abbrev pub day_rate : FilmData → List ℕ → ℕ → ℕ → ℕ
day_rate film order place actor =
    rate_by film (works film actor (scene_at order place)) (is_held film order place actor) actor

-- what all actors get for the days of the scene at this place
abbrev pub pay_at : FilmData → List ℕ → ℕ → ℕ
pay_at film order place =
    slice_index film.days (scene_at order place) * sum_below (length film.rates) (day_rate film order place)

-- the days of these scenes
abbrev pub days_of : FilmData → List ℕ → ℕ
days_of film scenes = sum_by (slice_index film.days) scenes
