-- Worked rows of the definitions, by computation.
use Rattle.std.proofs.Common.{◌≡◌, [], ◌∷◌, refl}
use Rattle.strip_mask.specs.Set.{has, union, meet, minus, with, without, members, numbers_below, sum_over, full}
use Rattle.strip_model.specs.Film.{FilmData}
use Rattle.strip_film.specs.Shoot.{on_location, ready, step_cost}
use Rattle.strip_film.specs.Finish.{steps_cost}
use Rattle.strip_film.specs.Running.{scenes_with}
use Rattle.strip_film.specs.Bounds.{plain_bound}

-- three scenes of two actors each, one day each
abbrev triangle : FilmData
triangle = record { casts = 3 ∷ 6 ∷ 5 ∷ []; days = 1 ∷ 1 ∷ 1 ∷ []; rates = 1 ∷ 2 ∷ 3 ∷ []; holds = 1 ∷ 2 ∷ 3 ∷ []; pairs = [] }

whole_of_triangle : plain_bound triangle 7 ≡ 12
unfolding has members numbers_below sum_over
whole_of_triangle = refl

rest_of_triangle : plain_bound triangle 6 ≡ 9
unfolding has members numbers_below sum_over
rest_of_triangle = refl

located_in_triangle : on_location triangle 6 ≡ 3
unfolding has union meet minus with full members numbers_below
located_in_triangle = refl

second_step_of_triangle : step_cost triangle 6 1 ≡ 6
unfolding has union meet minus with full members numbers_below sum_over
second_step_of_triangle = refl

third_step_of_triangle : step_cost triangle 6 2 ≡ 6
unfolding has union meet minus with full members numbers_below sum_over
third_step_of_triangle = refl

rising_triangle : steps_cost triangle 7 (0 ∷ 1 ∷ 2 ∷ []) ≡ 13
unfolding has union meet minus with without full members numbers_below sum_over
rising_triangle = refl

turned_triangle : steps_cost triangle 7 (1 ∷ 2 ∷ 0 ∷ []) ≡ 14
unfolding has union meet minus with without full members numbers_below sum_over
turned_triangle = refl

-- after the first scene the first actor has one done and one left, and the third has two left; after the second these two wait
one_left_of_first : scenes_with triangle 6 0 ≡ 1
unfolding has members numbers_below
one_left_of_first = refl

one_done_of_first : scenes_with triangle (minus 7 6) 0 ≡ 1
unfolding has minus members numbers_below
one_done_of_first = refl

two_left_of_third : scenes_with triangle 6 2 ≡ 2
unfolding has members numbers_below
two_left_of_third = refl

located_after_two : on_location triangle 4 ≡ 5
unfolding has union meet minus with full members numbers_below
located_after_two = refl

-- the same scenes with hold rates of their own
abbrev held : FilmData
held = record { casts = 3 ∷ 6 ∷ 5 ∷ []; days = 1 ∷ 1 ∷ 1 ∷ []; rates = 1 ∷ 2 ∷ 3 ∷ []; holds = 5 ∷ 1 ∷ 4 ∷ []; pairs = [] }

held_steps : steps_cost held 7 (0 ∷ 2 ∷ 1 ∷ []) ≡ 13
unfolding has union meet minus with without full members numbers_below sum_over
held_steps = refl

-- and with the first and the last before the second
abbrev paired : FilmData
paired = record { casts = 3 ∷ 6 ∷ 5 ∷ []; days = 1 ∷ 1 ∷ 1 ∷ []; rates = 1 ∷ 2 ∷ 3 ∷ []; holds = 1 ∷ 2 ∷ 3 ∷ []; pairs = record { first = 0; then = 1 } ∷ record { first = 2; then = 1 } ∷ [] }

ready_of_all : ready paired 7 ≡ 5
unfolding has with union minus
ready_of_all = refl

ready_of_last : ready paired 2 ≡ 2
unfolding has with union minus
ready_of_last = refl

-- both work in the first scene, and one alone in each other scene
abbrev costly : FilmData
costly = record { casts = 3 ∷ 1 ∷ 2 ∷ []; days = 1 ∷ 1 ∷ 1 ∷ []; rates = 1 ∷ 10 ∷ []; holds = 1 ∷ 10 ∷ []; pairs = [] }

rest_of_costly : plain_bound costly 6 ≡ 11
unfolding has members numbers_below sum_over
rest_of_costly = refl

cheap_actor_first : steps_cost costly 6 (1 ∷ 2 ∷ []) ≡ 21
unfolding has union meet minus with without full members numbers_below sum_over
cheap_actor_first = refl

costly_actor_first : steps_cost costly 6 (2 ∷ 1 ∷ []) ≡ 12
unfolding has union meet minus with without full members numbers_below sum_over
costly_actor_first = refl
