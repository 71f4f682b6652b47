-- Each step keeps the limits of films, and takes a scene or an actor.
use Rattle.std.proofs.Common.{◌≡◌, ℕ, suc, ◌+◌, ◌-◌, ◌<◌, ◌≤◌, true, false, not, ◌&&◌, ◌==◌, List, [], ◌∷◌, ◌++◌, length, take, drop, All, slice_index, slice_index_or, sym, ◌∙◌, inl, inr, arith}
use Rattle.std.specs.List.{remove, sum}
use Rattle.std.proofs.lemmas.Bool.{and_parts, cases_lt, not-true}
use Rattle.std.proofs.lemmas.List.{length-map, length-set}
use Rattle.std.proofs.lemmas.List.Edits.{length-remove, get_or-remove_below}
use Rattle.std.proofs.lemmas.List.Elements.{All-append, All-drop, All-map, All-set, All-take, All-weaker}
use Rattle.std.proofs.lemmas.List.Sums.{sum_by-remove, sum_by-set}
use Rattle.strip_mask.specs.Set.{LiesBelow, behind_gap, closed_up, numbers_below}
use Rattle.strip_mask.proofs.Gaps.{has-closed_up}
use Rattle.strip_mask.proofs.Members.{length-numbers_below}
use Rattle.strip_model.specs.Film.{FilmData}
use Rattle.strip_film.specs.Film.{IsFilmUpTo}
use Rattle.strip_reduce.specs.State.{State, IsState, start}
use Rattle.strip_reduce.specs.Steps.{actors_joined, can_join_scenes, casts_without, dropped, is_paired, scenes_joined, summed}
use Rattle.strip_reduce.proofs.Places.{gap_above}
use Rattle.strip_reduce.proofs.Renumber.{fit-renumbered}

pub All-remove : {X : Type 0} (P : X → Type 0) (xs : List X) (i : ℕ) → All P xs → All P (remove xs i)
All-remove P xs i all = All-append P (take i xs) (drop (suc i) xs) (All-take P i xs all) (All-drop P (suc i) xs all)

pub length-summed : (values : List ℕ) (a b : ℕ) → b < length values → length (summed values a b) + 1 ≡ length values
length-summed values a b within =
    omega (arith, length-set (remove values b) a (slice_index values a + slice_index values b), length-remove values b within)

-- the sum of all stays
pub sum-summed : (values : List ℕ) (a b : ℕ) → a < b → b < length values → sum (summed values a b) ≡ sum values
sum-summed values a b lt within =
    let fewer : sum (remove values b) + slice_index values b ≡ sum values = sum_by-remove (λ x. x) values b 0 within in
    let more : sum (summed values a b) + slice_index (remove values b) a ≡ sum (remove values b) + (slice_index values a + slice_index values b)
    = sum_by-set (λ x. x) (remove values b) a (slice_index values a + slice_index values b) 0 (omega (arith, lt, within, length-remove values b within)) in
    let here : slice_index (remove values b) a ≡ slice_index values a = get_or-remove_below values b 0 a lt within in
    omega (arith, fewer, more, here)

sum-remove : (values : List ℕ) (i : ℕ) → i < length values → sum (remove values i) ≤ sum values
sum-remove values i within = omega (arith, sum_by-remove (λ x. x) values i 0 within)

-- casts without an actor lie below one actor less
casts-below : (casts : List ℕ) (actor n : ℕ) → actor < n + 1 → All (LiesBelow (n + 1)) casts → All (LiesBelow n) (casts_without casts actor)
casts-below casts actor n within all =
    All-map (LiesBelow n) (λ cast. closed_up cast actor) casts (All-weaker (LiesBelow (n + 1)) (λ cast. LiesBelow n (closed_up cast actor)) lower casts all)
  where
    lower : (cast : ℕ) → LiesBelow (n + 1) cast → LiesBelow n (closed_up cast actor)
    lower cast lies i there =
        let before : behind_gap actor i < n + 1 = lies (behind_gap actor i) (sym (has-closed_up cast actor i) ∙ there) in
        elim (cases_lt i actor) [
          | inl lt ↦ omega (arith, lt, within)
          | inr le ↦ omega (arith, before, gap_above actor i le)
        ]

pub limits-start : (film : FilmData) → IsFilmUpTo 200 film → IsState (start film)
limits-start film is = record {
  film = is;
  members = length-map (numbers_below (length film.casts)) (λ scene. scene ∷ []) ∙ length-numbers_below (length film.casts);
}

module _ (state : State) where
  pub limits-dropped : (actor : ℕ) → actor < length state.film.rates → IsState state → IsState (dropped state actor)
  limits-dropped actor within is =
      let scenes : length (casts_without state.film.casts actor) ≡ length state.film.casts = length-map state.film.casts (λ cast. closed_up cast actor) in
      let actors : length (remove state.film.rates actor) + 1 ≡ length state.film.rates = length-remove state.film.rates actor within in
      let held : length (remove state.film.holds actor) + 1 ≡ length state.film.holds = length-remove state.film.holds actor (rw is.film.hold_count within) in
      record {
        film = record {
          scene_count = (omega (arith, scenes, is.film.scene_count.0), omega (arith, scenes, is.film.scene_count.1));
          day_count = is.film.day_count ∙ sym scenes;
          actor_count = omega (arith, actors, is.film.actor_count);
          hold_count = omega (arith, actors, held, is.film.hold_count);
          some_days = is.film.some_days;
          day_sum = is.film.day_sum;
          rate_sum = omega (arith, is.film.rate_sum, sum-remove state.film.rates actor within);
          hold_sum = omega (arith, is.film.hold_sum, sum-remove state.film.holds actor (rw is.film.hold_count within));
          casts = casts-below state.film.casts actor (length (remove state.film.rates actor)) (rw actors within) (rw actors is.film.casts);
          pairs = rw scenes is.film.pairs;
        };
        members = is.members ∙ sym scenes;
      }

  pub limits-actors_joined : (a b : ℕ) → a < b → b < length state.film.rates → IsState state → IsState (actors_joined state a b)
  limits-actors_joined a b lt within is =
      let within_holds : b < length state.film.holds = rw is.film.hold_count within in
      let scenes : length (casts_without state.film.casts b) ≡ length state.film.casts = length-map state.film.casts (λ cast. closed_up cast b) in
      let actors : length (summed state.film.rates a b) + 1 ≡ length state.film.rates = length-summed state.film.rates a b within in
      let held : length (summed state.film.holds a b) + 1 ≡ length state.film.holds = length-summed state.film.holds a b within_holds in
      record {
        film = record {
          scene_count = (omega (arith, scenes, is.film.scene_count.0), omega (arith, scenes, is.film.scene_count.1));
          day_count = is.film.day_count ∙ sym scenes;
          actor_count = omega (arith, actors, is.film.actor_count);
          hold_count = omega (arith, actors, held, is.film.hold_count);
          some_days = is.film.some_days;
          day_sum = is.film.day_sum;
          rate_sum = omega (arith, is.film.rate_sum, sum-summed state.film.rates a b lt within);
          hold_sum = omega (arith, is.film.hold_sum, sum-summed state.film.holds a b lt within_holds);
          casts = casts-below state.film.casts b (length (summed state.film.rates a b)) (rw actors within) (rw actors is.film.casts);
          pairs = rw scenes is.film.pairs;
        };
        members = is.members ∙ sym scenes;
      }

  pub limits-scenes_joined : (a b : ℕ) → a < b → b < length state.film.casts → IsState state → can_join_scenes state.film a b ≡ true
      → IsState (scenes_joined state a b)
  limits-scenes_joined a b lt within is can =
      let within_days : b < length state.film.days = rw is.film.day_count within in
      let scenes : length (remove state.film.casts b) + 1 ≡ length state.film.casts = length-remove state.film.casts b within in
      let days : length (summed state.film.days a b) + 1 ≡ length state.film.days = length-summed state.film.days a b within_days in
      let members : length (remove state.members b) + 1 ≡ length state.members = length-remove state.members b (rw is.members within) in
      let less : length state.film.casts - 1 ≡ length (remove state.film.casts b) = omega (arith, scenes) in
      record {
        film = record {
          scene_count = (omega (arith, scenes, lt, within), omega (arith, scenes, is.film.scene_count.1));
          day_count = omega (arith, scenes, days, is.film.day_count);
          actor_count = is.film.actor_count;
          hold_count = is.film.hold_count;
          some_days = All-set (λ d. 0 < d) (remove state.film.days b) a (slice_index state.film.days a + slice_index state.film.days b)
              (let some : 0 < slice_index state.film.days b = is.film.some_days b 0 within_days in omega (arith, some))
              (All-remove (λ d. 0 < d) state.film.days b is.film.some_days);
          day_sum = omega (arith, is.film.day_sum, sum-summed state.film.days a b lt within_days);
          rate_sum = is.film.rate_sum;
          hold_sum = is.film.hold_sum;
          casts = All-remove (LiesBelow (length state.film.rates)) state.film.casts b is.film.casts;
          pairs = rw (← less) (fit-renumbered b state.film.pairs unpaired (length state.film.casts) within is.film.pairs);
        };
        members = omega (arith, scenes, members, is.members, length-set (remove state.members b) a (slice_index_or state.members a [] ++ slice_index_or state.members b []));
      }
    where
      unpaired : is_paired state.film.pairs b ≡ false
      unpaired =
          let free = and_parts (slice_index state.film.casts a == slice_index state.film.casts b) (not (is_paired state.film.pairs a) && not (is_paired state.film.pairs b)) can in
          not-true (is_paired state.film.pairs b) (and_parts (not (is_paired state.film.pairs a)) (not (is_paired state.film.pairs b)) free.1).1
