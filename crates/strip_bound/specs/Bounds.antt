-- The static bounds of a set: what shooting it costs at least.
use Rattle.std.specs.Prelude.{ℕ, zero, suc, ◌+◌, ◌-◌, ◌*◌, ◌/◌, min, max, Bool, not, ◌&&◌, nat_lt, List, [], ◌∷◌, length, map, take, drop, filter, fold, sum_by, slice_index}
use Rattle.strip_mask.specs.Set.{has, meet, minus, with, members, numbers_below, size}
use Rattle.strip_mask.specs.Sums.{sum_below}
use Rattle.strip_model.specs.declared.kind.Kind.{Kind}
use Rattle.strip_model.specs.declared.kind.Kind.TheVariants.{Plain, Pairs, Groups, Arrivals}
use Rattle.strip_model.specs.Film.{FilmData}
use Rattle.strip_model.specs.Pay.{works}
use Rattle.strip_film.specs.Bounds.{plain_bound}
use Rattle.strip_film.specs.Shoot.{cast_of, on_location}
use Rattle.strip_group.specs.Group.{GroupData, group_extra}
use Rattle.strip_arrivals.specs.Arrivals.{arrivals_value}
use Rattle.strip_bound.specs.Falling.{by_falling}

-- the days of the scenes of the set in which the first actor works and the second doesn't
abbrev pub days_with_without : FilmData → ℕ → ℕ → ℕ → ℕ
days_with_without film set a b =
    sum_by (slice_index film.days) (filter (λ scene. works film a scene && not (works film b scene)) (members set))

-- what two actors who are on location are paid for waiting at least: one of them leaves last, and waits on the days
-- of the other
abbrev pub pair_extra : FilmData → ℕ → ℕ → ℕ → ℕ
pair_extra film set a b =
    min (slice_index film.holds a * days_with_without film set b a)
    (slice_index film.holds b * days_with_without film set a b)

-- the extras of a list of actors taken two by two; a last single one adds nothing
abbrev pub pairs_extra : FilmData → ℕ → List ℕ → ℕ
pairs_extra film set [] = 0
pairs_extra film set (a ∷ []) = 0
pairs_extra film set (a ∷ b ∷ actors) = pair_extra film set a b + pairs_extra film set actors

-- what the waiting of a film's groups goes by
abbrev pub group_data : FilmData → GroupData
group_data film = record { casts = film.casts; days = film.days; holds = film.holds }

-- the set of a list's numbers
abbrev pub set_of : List ℕ → ℕ
set_of numbers = fold with 0 numbers

-- a list taken six by six, the last piece with what remains
abbrev pub by_six_from : ℕ → List ℕ → List (List ℕ)
by_six_from zero xs = []
by_six_from (suc n) [] = []
by_six_from (suc n) (x ∷ xs) = take 6 (x ∷ xs) ∷ by_six_from n (drop 6 (x ∷ xs))

abbrev pub by_six : List ℕ → List (List ℕ)
by_six xs = by_six_from (length xs) xs

-- the extras of a list of groups
abbrev pub groups_extra : FilmData → ℕ → List ℕ → ℕ
groups_extra film set groups = sum_by (group_extra (group_data film) set) groups

-- the groups of six that are on location, by rising number
abbrev pub groups_of : FilmData → ℕ → List ℕ
groups_of film set = map set_of (by_six (members (on_location film set)))

-- ---- parties: groups by falling hold rate, each with newcomers who are still to come

-- who is on location, by falling hold rate, equals by number
abbrev pub located_by_hold : FilmData → ℕ → List ℕ
located_by_hold film set = by_falling (slice_index film.holds) (members (on_location film set))

-- a newcomer isn't on location and has two or more scenes in the set
abbrev pub is_newcomer : FilmData → ℕ → ℕ → Bool
is_newcomer film set actor = not (has (on_location film set) actor)
    && nat_lt 1 (length (filter (works film actor) (members set)))

-- the newcomers, as a set
abbrev pub newcomers_of : FilmData → ℕ → ℕ
newcomers_of film set = set_of (filter (is_newcomer film set) (numbers_below (length film.rates)))

-- the group of the party at a place, where each has so many
abbrev pub group_at : FilmData → ℕ → ℕ → ℕ → ℕ
group_at film set many place = set_of (take many (drop (place * many) (located_by_hold film set)))

-- those of a group who work in a scene of the set with the newcomer
abbrev pub company : FilmData → ℕ → ℕ → ℕ → ℕ
company film set group newcomer = meet group (cast_of film (set_of (filter (works film newcomer) (members set))))

-- whether one of the actors works in the scene
abbrev pub works_any : FilmData → ℕ → ℕ → Bool
works_any film actors scene = nat_lt 0 (length (filter (λ actor. works film actor scene) (members actors)))

-- what the actors would be paid for waiting on all of the newcomer's days without them
abbrev pub pay_of_company : FilmData → ℕ → ℕ → ℕ → ℕ
pay_of_company film set actors newcomer =
    sum_by (λ actor. slice_index film.holds actor * days_with_without film set newcomer actor) (members actors)

-- what the newcomer would be paid for waiting on all days of the actors without him
abbrev pub pay_of_newcomer : FilmData → ℕ → ℕ → ℕ → ℕ
pay_of_newcomer film set actors newcomer =
    slice_index film.holds newcomer * sum_by (slice_index film.days)
    (filter (λ scene. works_any film actors scene && not (works film newcomer scene)) (members set))

-- what a newcomer and his company in a group may cost while one waits for the other
abbrev pub score : FilmData → ℕ → ℕ → ℕ → ℕ
score film set group newcomer = min (pay_of_company film set (company film set group newcomer) newcomer)
    (pay_of_newcomer film set (company film set group newcomer) newcomer)

-- the two of some newcomers who have the greatest scores for a group, equals by number; of fewer all
abbrev pub chosen : FilmData → ℕ → ℕ → ℕ → List ℕ
chosen film set group newcomers = take 2 (by_falling (score film set group) (members newcomers))

-- the newcomers whom no party before this place has
abbrev pub left_at : FilmData → ℕ → ℕ → ℕ → ℕ
left_at film set many zero = newcomers_of film set
left_at film set many (suc place) = minus (left_at film set many place)
    (set_of (chosen film set (group_at film set many place) (left_at film set many place)))

-- the newcomers of the party at a place, of whom it has two at most: all, or the first alone, or none
abbrev pub newcomers_at : FilmData → ℕ → ℕ → ℕ → ℕ → ℕ
newcomers_at film set many count place =
    set_of (take count (chosen film set (group_at film set many place) (left_at film set many place)))

-- what the party is paid for waiting at least, with so many of its newcomers
abbrev pub party_value : FilmData → ℕ → ℕ → ℕ → ℕ → ℕ
party_value film set many count place = arrivals_value (group_data film) set (group_at film set many place)
    (newcomers_at film set many count place)

-- the greatest of its values with fewer newcomers than that; 0 where there is none
abbrev pub greatest_below : FilmData → ℕ → ℕ → ℕ → ℕ → ℕ
greatest_below film set many zero place = 0
greatest_below film set many (suc count) place = max (greatest_below film set many count place)
    (party_value film set many count place)

-- how many parties there are, the last with what remains
abbrev pub number_of_parties : FilmData → ℕ → ℕ → ℕ
number_of_parties film set many = (size (on_location film set) + (many - 1)) / many

-- the sum over the parties of the greatest of their values with no newcomer, with one and with two
abbrev pub parties_extra : FilmData → ℕ → ℕ → ℕ
parties_extra film set many = sum_below (number_of_parties film set many) (greatest_below film set many 3)

-- the static bound of each kind
abbrev pub bound : Kind → FilmData → ℕ → ℕ
bound Plain film set = plain_bound film set
bound Pairs film set = plain_bound film set + pairs_extra film set (members (on_location film set))
bound Groups film set = plain_bound film set + groups_extra film set (groups_of film set)
bound Arrivals film set = plain_bound film set + max (parties_extra film set 7) (parties_extra film set 10)
