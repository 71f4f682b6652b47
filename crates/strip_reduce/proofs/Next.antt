-- Which step is the next.
use Rattle.std.proofs.Common.{◌≡◌, ℕ, zero, suc, List, [], Option, Some, None, length, refl, sym, ap, ◌∙◌}
use Rattle.strip_model.specs.declared.pair.Pair.{Pair}
use Rattle.std.specs.Option.{option_map_or}
use Rattle.strip_film.specs.Film.{film_data}
use Rattle.strip_reduce.specs.State.{State}
use Rattle.strip_reduce.specs.Steps.{actors_joined, can_drop, can_join_actors, can_join_scenes, dropped, scenes_joined}
use Rattle.strip_reduce.specs.Reduction.{after_steps, least_below, least_two, next}

pub next-dropped : (state : State) (actor : ℕ) → least_below (length state.film.rates) (can_drop state.film) ≡ Some actor → next state ≡ Some (dropped state actor)
next-dropped state actor found = rw found refl

pub next-scenes_joined : (state : State) (a b : ℕ) → least_below (length state.film.rates) (can_drop state.film) ≡ None
    → least_two (length state.film.casts) (can_join_scenes state.film) ≡ Some (a, b) → next state ≡ Some (scenes_joined state a b)
next-scenes_joined state a b stay found = rw stay (rw found refl)

pub next-actors_joined : (state : State) (a b : ℕ) → least_below (length state.film.rates) (can_drop state.film) ≡ None
    → least_two (length state.film.casts) (can_join_scenes state.film) ≡ None
    → least_two (length state.film.rates) (can_join_actors state.film) ≡ Some (a, b) → next state ≡ Some (actors_joined state a b)
next-actors_joined state a b stay apart found = rw stay (rw apart (rw found refl))

pub next-none : (state : State) → least_below (length state.film.rates) (can_drop state.film) ≡ None
    → least_two (length state.film.casts) (can_join_scenes state.film) ≡ None
    → least_two (length state.film.rates) (can_join_actors state.film) ≡ None → next state ≡ None
next-none state stay apart differ = rw stay (rw apart (rw differ refl))

-- ---- steps one after the other

pub after-none : (n : ℕ) (state : State) → next state ≡ None → after_steps n state ≡ state
after-none zero state none = refl
after-none (suc n) state none = ap (λ (later : Option State). option_map_or (after_steps n) later state) none

pub after-some : (n : ℕ) (state later : State) → next state ≡ Some later → after_steps (suc n) state ≡ after_steps n later
after-some n state later some = ap (λ (at : Option State). option_map_or (after_steps n) at state) some

-- ---- what is found by the lists that a step needs

pub found-actor : (state : State) (casts holds : List ℕ) (found : Option ℕ) → length state.film.holds ≡ length state.film.rates → casts ≡ state.film.casts → holds ≡ state.film.holds
    → found ≡ least_below (length holds) (can_drop (film_data casts [] [] holds [])) → least_below (length state.film.rates) (can_drop state.film) ≡ found
found-actor state casts holds found count same_casts same_holds is =
    sym (is ∙ ap (λ (xs : List ℕ). least_below (length holds) (can_drop (film_data xs [] [] holds []))) same_casts
    ∙ ap (λ (xs : List ℕ). least_below (length xs) (can_drop (film_data state.film.casts [] [] xs []))) same_holds
    ∙ ap (λ (n : ℕ). least_below n (can_drop state.film)) count)

pub found-scenes : (state : State) (casts : List ℕ) (pairs : List Pair) (found : Option (ℕ × ℕ)) → casts ≡ state.film.casts → pairs ≡ state.film.pairs
    → found ≡ least_two (length casts) (can_join_scenes (film_data casts [] [] [] pairs)) → least_two (length state.film.casts) (can_join_scenes state.film) ≡ found
found-scenes state casts pairs found same_casts same_pairs is =
    sym (is ∙ ap (λ (xs : List ℕ). least_two (length xs) (can_join_scenes (film_data xs [] [] [] pairs))) same_casts
    ∙ ap (λ (xs : List Pair). least_two (length state.film.casts) (can_join_scenes (film_data state.film.casts [] [] [] xs))) same_pairs)

pub found-actors : (state : State) (casts : List ℕ) (actors : ℕ) (found : Option (ℕ × ℕ)) → casts ≡ state.film.casts → actors ≡ length state.film.rates
    → found ≡ least_two actors (can_join_actors (film_data casts [] [] [] [])) → least_two (length state.film.rates) (can_join_actors state.film) ≡ found
found-actors state casts actors found same_casts count is =
    sym (is ∙ ap (λ (xs : List ℕ). least_two actors (can_join_actors (film_data xs [] [] [] []))) same_casts
    ∙ ap (λ (n : ℕ). least_two n (can_join_actors state.film)) count)
