-- The steps of a reduction: an actor is dropped, two scenes are joined, two actors are joined.
use Rattle.std.specs.Prelude.{ℕ, ◌+◌, ◌-◌, ◌*◌, ◌==◌, nat_lt, nat_le, Bool, not, ◌&&◌, ◌||◌, if◌then◌else◌, List, [], ◌++◌, length, map, set, slice_index, slice_index_or}
use Rattle.std.specs.List.{list_all, list_any, remove}
use Rattle.std.specs.Bool.{beq}
use Rattle.strip_mask.specs.Set.{has, closed_up}
use Rattle.strip_mask.specs.Sums.{sum_below}
use Rattle.strip_model.specs.declared.pair.Pair.{Pair}
use Rattle.strip_model.specs.Film.{FilmData}
use Rattle.strip_model.specs.Pay.{works}
use Rattle.strip_reduce.specs.State.{State}

-- ---- when a step can be taken

-- in how many scenes the actor works
abbrev pub scene_count : FilmData → ℕ → ℕ
scene_count film actor = sum_below (length film.casts) (λ scene. if works film actor scene then 1 else 0)

-- the days of the scenes that he works in
abbrev pub work_days : FilmData → ℕ → ℕ
work_days film actor = sum_below (length film.casts)
    (λ scene. if works film actor scene then slice_index film.days scene else 0)

-- the actor's pay is the same in any order: his waiting costs nothing, or he has no two scenes to wait between
abbrev pub can_drop : FilmData → ℕ → Bool
can_drop film actor = (slice_index film.holds actor == 0) || nat_le (scene_count film actor) 1

-- the scene stands in a pair
abbrev pub is_paired : List Pair → ℕ → Bool
is_paired pairs scene = list_any (λ pair. (pair.first == scene) || (pair.then == scene)) pairs

-- the scenes have equal casts, and neither stands in a pair
abbrev pub can_join_scenes : FilmData → ℕ → ℕ → Bool
can_join_scenes film a b =
    (slice_index film.casts a == slice_index film.casts b)
    && (not (is_paired film.pairs a) && not (is_paired film.pairs b))

-- the actors work in the same scenes
abbrev pub can_join_actors : FilmData → ℕ → ℕ → Bool
can_join_actors film a b = list_all (λ cast. beq (has cast a) (has cast b)) film.casts

-- ---- what it leaves

-- the list with one value for those at places a and b: it stands at a, and b is closed up
abbrev pub joined : {X : Type 0} → List X → ℕ → ℕ → X → List X
joined values a b value = set (remove values b) a value

-- the numbers with their sum for those at places a and b
abbrev pub summed : List ℕ → ℕ → ℕ → List ℕ
summed values a b = joined values a b (slice_index values a + slice_index values b)

-- the casts without the actor; the greater actors' numbers are one lower
abbrev pub casts_without : List ℕ → ℕ → List ℕ
casts_without casts actor = map (λ cast. closed_up cast actor) casts

-- a scene's number when scene `gone` is taken out, and a pair's
abbrev pub renumbered : ℕ → ℕ → ℕ
renumbered gone scene = if nat_lt gone scene then scene - 1 else scene

abbrev pub renumbered_pair : ℕ → Pair → Pair
renumbered_pair gone pair = record { first = renumbered gone pair.first; then = renumbered gone pair.then }

-- the actor leaves, and his rate for the days of his scenes is set apart
abbrev pub dropped : State → ℕ → State
dropped state actor = record {
  film = record state.film {
    casts = casts_without state.film.casts actor;
    rates = remove state.film.rates actor;
    holds = remove state.film.holds actor;
  };
  members = state.members;
  apart = state.apart + slice_index state.film.rates actor * work_days state.film actor;
}

-- scene b is shot behind scene a, as one scene at place a
abbrev pub scenes_joined : State → ℕ → ℕ → State
scenes_joined state a b = record {
  film = record state.film {
    casts = remove state.film.casts b;
    days = summed state.film.days a b;
    pairs = map (renumbered_pair b) state.film.pairs;
  };
  members = joined state.members a b (slice_index_or state.members a [] ++ slice_index_or state.members b []);
  apart = state.apart;
}

-- actor b is counted in actor a, who gets the rates and hold rates of both
abbrev pub actors_joined : State → ℕ → ℕ → State
actors_joined state a b = record {
  film = record state.film {
    casts = casts_without state.film.casts b;
    rates = summed state.film.rates a b;
    holds = summed state.film.holds a b;
  };
  members = state.members;
  apart = state.apart;
}
