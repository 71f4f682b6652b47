-- Worked rows of the definitions, by computation.
use Rattle.std.proofs.Common.{◌≡◌, [], ◌∷◌, refl}
use Rattle.strip_mask.specs.Set.{has, union, meet, minus, with, without, members, numbers_below, sum_over, full}
use Rattle.strip_model.specs.Film.{FilmData}
use Rattle.strip_film.specs.Finish.{steps_cost}
use Rattle.strip_film.specs.Shoot.{step_cost}
use Rattle.strip_start.specs.Moves.{moved}
use Rattle.strip_start.specs.Sides.{cast_along, turn_cost}

-- the second scene of four to the front and to the end, and the last to the second place
to_front : moved (7 ∷ 8 ∷ 9 ∷ 6 ∷ []) 1 0 ≡ 8 ∷ 7 ∷ 9 ∷ 6 ∷ []
to_front = refl

to_end : moved (7 ∷ 8 ∷ 9 ∷ 6 ∷ []) 1 3 ≡ 7 ∷ 9 ∷ 6 ∷ 8 ∷ []
to_end = refl

from_end : moved (7 ∷ 8 ∷ 9 ∷ 6 ∷ []) 3 1 ≡ 7 ∷ 6 ∷ 8 ∷ 9 ∷ []
from_end = refl

at_home : moved (7 ∷ 8 ∷ 9 ∷ 6 ∷ []) 2 2 ≡ 7 ∷ 8 ∷ 9 ∷ 6 ∷ []
at_home = refl

-- two scenes of one actor each, and one of both
abbrev pair_of_two : FilmData
pair_of_two = record { casts = 1 ∷ 2 ∷ 3 ∷ []; days = 1 ∷ 1 ∷ 1 ∷ []; rates = 10 ∷ 20 ∷ []; holds = 10 ∷ 20 ∷ []; pairs = [] }

-- the first step is the least; then both cost the same
first_step : step_cost pair_of_two 7 0 ≡ 10
unfolding has union meet minus with full members numbers_below sum_over
first_step = refl

second_step : step_cost pair_of_two 6 1 ≡ 30
unfolding has union meet minus with full members numbers_below sum_over
second_step = refl

other_second_step : step_cost pair_of_two 6 2 ≡ 30
unfolding has union meet minus with full members numbers_below sum_over
other_second_step = refl

rising_pays : steps_cost pair_of_two 7 (0 ∷ 1 ∷ 2 ∷ []) ≡ 70
unfolding has union meet minus with without full members numbers_below sum_over
rising_pays = refl

moved_pays : steps_cost pair_of_two 7 (moved (0 ∷ 1 ∷ 2 ∷ []) 0 2) ≡ 60
unfolding has union meet minus with without full members numbers_below sum_over
moved_pays = refl

-- at first the first actor waits through the second scene; turned, the second waits through the first scene
along_two : cast_along pair_of_two (1 ∷ 2 ∷ []) ≡ 3
unfolding union
along_two = refl

rising_turn : turn_cost pair_of_two 0 3 0 1 ≡ 10
unfolding has union meet minus members numbers_below sum_over
rising_turn = refl

turned_turn : turn_cost pair_of_two 0 3 1 0 ≡ 20
unfolding has union meet minus members numbers_below sum_over
turned_turn = refl

turned_pays : steps_cost pair_of_two 7 (1 ∷ 0 ∷ 2 ∷ []) ≡ 80
unfolding has union meet minus with without full members numbers_below sum_over
turned_pays = refl
