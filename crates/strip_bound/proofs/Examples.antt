-- Worked rows of the definitions, by computation.
use Rattle.std.proofs.Common.{◌≡◌, [], ◌∷◌, slice_index, refl}
use Rattle.strip_mask.specs.Set.{has, union, meet, minus, with, without, members, numbers_below, size, sum_over, full}
use Rattle.strip_mask.specs.Sums.{sum_below}
use Rattle.strip_model.specs.Film.{FilmData}
use Rattle.strip_model.specs.declared.kind.Kind.TheVariants.{Plain, Pairs, Groups, Arrivals}
use Rattle.strip_bound.specs.Bounds.{bound, newcomers_of}
use Rattle.strip_bound.specs.Falling.{by_falling}

-- both actors work in scene 0, and each in one of the scenes 1 and 2 alone
abbrev two : FilmData
two = record { casts = 3 ∷ 1 ∷ 2 ∷ []; days = 1 ∷ 1 ∷ 1 ∷ []; rates = 1 ∷ 10 ∷ []; holds = 1 ∷ 10 ∷ []; pairs = [] }

plain_of_two : bound Plain two 6 ≡ 11
unfolding has members numbers_below sum_over
plain_of_two = refl

-- the one who is paid less waits
pairs_of_two : bound Pairs two 6 ≡ 12
unfolding has union meet minus with full members numbers_below sum_over
pairs_of_two = refl

-- three scenes of two actors each, one day each
abbrev triangle : FilmData
triangle = record { casts = 3 ∷ 6 ∷ 5 ∷ []; days = 1 ∷ 1 ∷ 1 ∷ []; rates = 1 ∷ 2 ∷ 3 ∷ []; holds = 1 ∷ 2 ∷ 3 ∷ []; pairs = [] }

plain_of_triangle : bound Plain triangle 7 ≡ 12
unfolding has members numbers_below sum_over
plain_of_triangle = refl

first_shot : bound Pairs triangle 6 ≡ 10
unfolding has union meet minus with full members numbers_below sum_over
first_shot = refl

second_shot : bound Pairs triangle 5 ≡ 9
unfolding has union meet minus with full members numbers_below sum_over
second_shot = refl

third_shot : bound Pairs triangle 3 ≡ 9
unfolding has union meet minus with full members numbers_below sum_over
third_shot = refl

-- all three actors work in scene 0, and each in one of the scenes 1 to 3 alone
abbrev three : FilmData
three = record { casts = 7 ∷ 1 ∷ 2 ∷ 4 ∷ []; days = 1 ∷ 1 ∷ 1 ∷ 1 ∷ []; rates = 1 ∷ 1 ∷ 1 ∷ []; holds = 1 ∷ 1 ∷ 1 ∷ []; pairs = [] }

plain_of_three : bound Plain three 14 ≡ 3
unfolding has members numbers_below sum_over
plain_of_three = refl

pairs_of_three : bound Pairs three 14 ≡ 4
unfolding has union meet minus with full members numbers_below sum_over
pairs_of_three = refl

groups_of_three : bound Groups three 14 ≡ 6
unfolding has union meet minus with without full members numbers_below size sum_over
groups_of_three = refl

-- the triangle with hold rates of their own: what is added is the least of the days alone at the hold rates
abbrev held : FilmData
held = record { casts = 3 ∷ 6 ∷ 5 ∷ []; days = 1 ∷ 1 ∷ 1 ∷ []; rates = 1 ∷ 2 ∷ 3 ∷ []; holds = 5 ∷ 1 ∷ 4 ∷ []; pairs = [] }

held_after_first : bound Pairs held 6 ≡ 10
unfolding has union meet minus with full members numbers_below sum_over
held_after_first = refl

held_after_second : bound Pairs held 5 ≡ 8
unfolding has union meet minus with full members numbers_below sum_over
held_after_second = refl

held_after_third : bound Groups held 3 ≡ 12
unfolding has union meet minus with without full members numbers_below size sum_over
held_after_third = refl

-- nobody is still to come, so they cost what the group does
arrivals_of_three : bound Arrivals three 14 ≡ 6
unfolding has union meet minus with without full members numbers_below size sum_over sum_below
arrivals_of_three = refl

-- the first three are on location: each has a scene alone, and one with the fourth, who is still to come: he waits, or they wait longer
abbrev coming : FilmData
coming = record {
  casts = 7 ∷ 9 ∷ 10 ∷ 12 ∷ 1 ∷ 2 ∷ 4 ∷ [];
  days = 1 ∷ 1 ∷ 1 ∷ 1 ∷ 1 ∷ 1 ∷ 1 ∷ [];
  rates = 1 ∷ 1 ∷ 1 ∷ 1 ∷ [];
  holds = 1 ∷ 1 ∷ 1 ∷ 1 ∷ [];
  pairs = [];
}

groups_of_coming : bound Groups coming 126 ≡ 15
unfolding has union meet minus with without full members numbers_below size sum_over
groups_of_coming = refl

arrivals_of_coming : bound Arrivals coming 126 ≡ 16
unfolding has union meet minus with without full members numbers_below size sum_over sum_below
arrivals_of_coming = refl

-- the second actor has two scenes to come and is a newcomer, the third has one and isn't
abbrev later : FilmData
later = record { casts = 1 ∷ 3 ∷ 2 ∷ 4 ∷ []; days = 1 ∷ 1 ∷ 1 ∷ 1 ∷ []; rates = 1 ∷ 1 ∷ 1 ∷ []; holds = 1 ∷ 1 ∷ 1 ∷ []; pairs = [] }

newcomers_of_later : newcomers_of later 14 ≡ 2
unfolding has union meet minus with full members numbers_below
newcomers_of_later = refl

-- the greater value first, equals by number
falling : by_falling (slice_index (2 ∷ 5 ∷ 2 ∷ 7 ∷ [])) (0 ∷ 1 ∷ 2 ∷ 3 ∷ []) ≡ 3 ∷ 1 ∷ 0 ∷ 2 ∷ []
falling = refl
