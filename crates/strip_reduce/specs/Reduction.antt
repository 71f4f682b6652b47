-- The reduction of a film to its classes: in each turn the first step that can be taken is taken, until there is none.
use Rattle.std.specs.Prelude.{ℕ, zero, suc, ◌+◌, ◌&&◌, nat_lt, Bool, length, Option, is_some}
use Rattle.std.specs.List.{find}
use Rattle.std.specs.Option.{option_map, option_map_or, option_or, option_and_then}
use Rattle.strip_mask.specs.Set.{numbers_below}
use Rattle.strip_model.specs.Film.{FilmData}
use Rattle.strip_reduce.specs.State.{State, start}
use Rattle.strip_reduce.specs.Steps.{can_drop, can_join_scenes, can_join_actors, dropped, scenes_joined, actors_joined}

-- the least number below n that passes
abbrev pub least_below : ℕ → (ℕ → Bool) → Option ℕ
least_below n test = find test (numbers_below n)

-- the least b behind a that passes with it
abbrev pub least_behind : ℕ → (ℕ → ℕ → Bool) → ℕ → Option ℕ
least_behind n test a = least_below n (λ b. nat_lt a b && test a b)

-- of the numbers a < b below n that pass together, those of the least a, and then of the least b
abbrev pub least_two : ℕ → (ℕ → ℕ → Bool) → Option (ℕ × ℕ)
least_two n test =
    option_and_then (λ a. option_map (λ b. (a, b)) (least_behind n test a)) (least_below n
    (λ a. is_some (least_behind n test a)))

-- the state after the first step that can be taken: the least actor is dropped, else the first two scenes are
-- joined, else the first two actors
abbrev pub next : State → Option State
next state =
    option_or (option_map (dropped state) (least_below (length state.film.rates) (can_drop state.film)))
    (option_or (option_map (λ two. scenes_joined state two.0 two.1)
    (least_two (length state.film.casts) (can_join_scenes state.film)))
    (option_map (λ two. actors_joined state two.0 two.1)
    (least_two (length state.film.rates) (can_join_actors state.film))))

-- the state after so many steps, or after fewer where no more can be taken
abbrev pub after_steps : ℕ → State → State
after_steps zero state = state
after_steps (suc n) state = option_map_or (after_steps n) (next state) state

-- the last state: each step takes a scene or an actor, so there are at most as many as both
abbrev pub reduced : FilmData → State
reduced film = after_steps (length film.casts + length film.rates) (start film)

-- how many classes the film has
abbrev pub class_count : FilmData → ℕ
class_count film = length (reduced film).film.casts
