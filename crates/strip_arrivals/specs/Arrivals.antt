-- What a group of actors on location and a few newcomers, who are still to come, are paid for waiting at least: the
-- cheapest way in which the newcomers come and go and those of the group leave.
use Rattle.std.specs.Prelude.{◌≡◌, ℕ, zero, suc, ◌+◌, ◌*◌, ◌≤◌, ◌==◌, Bool, not, ◌&&◌, List, [], ◌∷◌, ◌++◌, Contains, filter, map, take, drop, length, sum_by, slice_index}
use Rattle.std.specs.List.{list_all}
use Rattle.strip_mask.specs.Set.{has, with, without, union, meet, minus, members, numbers_below, size, sum_over}
use Rattle.strip_mask.specs.Least.{least_over}
use Rattle.strip_group.specs.Group.{GroupData}

-- ---- who works with whom

-- who works in one of the scenes
abbrev pub cast_of : GroupData → List ℕ → ℕ
cast_of film [] = 0
cast_of film (scene ∷ scenes) = union (slice_index film.casts scene) (cast_of film scenes)

-- the actors of a list, as a set
abbrev pub actors_of : List ℕ → ℕ
actors_of [] = 0
actors_of (actor ∷ actors) = with (actors_of actors) actor

-- none of these actors works in the scene
abbrev pub is_without : GroupData → ℕ → ℕ → Bool
is_without film actors scene = meet (slice_index film.casts scene) actors == 0

-- who works in a scene of the set in which one of these actors works
abbrev pub mates : GroupData → ℕ → ℕ → ℕ
mates film set actors = cast_of film (filter (λ scene. not (is_without film actors scene)) (members set))

-- ---- who is where

-- those of the group who have left, the newcomers who are still to come, those who are here, in the order of their
-- coming, and those who are gone
pub record StateData : Type 0 where
  pub left : ℕ
  pub coming : ℕ
  pub here : List ℕ
  pub gone : ℕ

-- at first all of the group are here, and all newcomers are still to come
abbrev pub at_first : ℕ → StateData
at_first newcomers = record { left = 0; coming = newcomers; here = []; gone = 0 }

-- in the end all of the group have left, and all newcomers are gone
abbrev pub IsOver : ℕ → StateData → Type 0
IsOver group state = (minus group state.left ≡ 0) × (state.coming ≡ 0) × (state.here ≡ [])

-- a newcomer comes, one of the group leaves, or a newcomer goes
pub data Event : Type 0 where
  comes : ℕ → Event
  leaves : ℕ → Event
  goes : ℕ → Event

abbrev pub after : StateData → Event → StateData
after state (comes actor) = record {
  left = state.left;
  coming = without state.coming actor;
  here = state.here ++ actor ∷ [];
  gone = state.gone;
}
after state (leaves actor) = record { left = with state.left actor; coming = state.coming; here = state.here; gone = state.gone }
after state (goes actor) = record {
  left = state.left;
  coming = state.coming;
  here = filter (λ other. not (other == actor)) state.here;
  gone = with state.gone actor;
}

-- what can happen next
abbrev pub events : ℕ → StateData → List Event
events group state = map comes (members state.coming) ++ map leaves (members (minus group state.left))
    ++ map goes state.here

-- ---- what a scene costs

-- nobody who works in the scene has left or is gone, so it isn't paid for yet
abbrev pub is_open : GroupData → StateData → ℕ → Bool
is_open film state scene = is_without film (union state.left state.gone) scene

-- what is paid for waiting on a day of the scene where so many of those who are here had come by then, in the order
-- of their coming: these, but for those who work in the scene, and those of the group who have left since, but work
-- with one who came later
abbrev pub paid_where : GroupData → ℕ → StateData → ℕ → ℕ → ℕ
paid_where film set state scene number =
    sum_over film.holds (minus (actors_of (take number state.here)) (slice_index film.casts scene))
    + sum_over film.holds (meet state.left (mates film set (actors_of (drop number state.here))))

-- so many of those who are here can have come by the scene: no one who came later works in it
abbrev pub can_have_come : GroupData → StateData → ℕ → ℕ → Bool
can_have_come film state scene number = is_without film (actors_of (drop number state.here)) scene

-- what is paid for waiting on a day of an open scene at least: those of the group who are still here wait, but for
-- those who work in it, and of the others as few as can be
abbrev pub price : GroupData → ℕ → ℕ → StateData → ℕ → ℕ
price film set group state scene =
    sum_over film.holds (minus (minus group state.left) (slice_index film.casts scene))
    + least_over (paid_where film set state scene)
    (filter (can_have_come film state scene) (numbers_below (suc (length state.here))))

-- the open scenes of the set in which the actor works
abbrev pub open_scenes : GroupData → ℕ → StateData → ℕ → List ℕ
open_scenes film set state actor = filter (λ scene. is_open film state scene
    && has (slice_index film.casts scene) actor) (members set)

-- the open scenes that are paid for when this happens
abbrev pub closed_by : GroupData → ℕ → StateData → Event → List ℕ
closed_by film set state (comes actor) = []
closed_by film set state (leaves actor) = open_scenes film set state actor
closed_by film set state (goes actor) = open_scenes film set state actor

-- what is paid for them
abbrev pub charge : GroupData → ℕ → ℕ → StateData → Event → ℕ
charge film set group state event =
    sum_by (λ scene. slice_index film.days scene * price film set group state scene) (closed_by film set state event)

-- no one who is still to come works in a scene that is paid for
abbrev pub is_allowed : GroupData → ℕ → StateData → Event → Bool
is_allowed film set state event = list_all (is_without film state.coming) (closed_by film set state event)

abbrev pub allowed : GroupData → ℕ → ℕ → StateData → List Event
allowed film set group state = filter (is_allowed film set state) (events group state)

-- ---- the least of all ways

-- all of the group leave and all newcomers come and go by these events, each of them allowed
abbrev pub IsRun : GroupData → ℕ → ℕ → StateData → List Event → Type 0
IsRun film set group state [] = IsOver group state
IsRun film set group state (event ∷ later) = Contains (allowed film set group state) event
    × IsRun film set group (after state event) later

-- what is paid along a run
abbrev pub total : GroupData → ℕ → ℕ → StateData → List Event → ℕ
total film set group state [] = 0
total film set group state (event ∷ later) = charge film set group state event
    + total film set group (after state event) later

-- the least total: some run has it, and none has less
pub record IsLeastTotal (film : GroupData) (set group : ℕ) (state : StateData) (least_paid : ℕ) : Type 0 where
  pub attained : (run : List Event) × IsRun film set group state run × (total film set group state run ≡ least_paid)
  pub least : (run : List Event) → IsRun film set group state run → least_paid ≤ total film set group state run

-- how many events are left: who is to come has also to go
abbrev pub events_left : ℕ → StateData → ℕ
events_left group state = size (minus group state.left) + 2 * size state.coming + length state.here

-- the least total by what happens first, of at most so many events
abbrev pub least_total : GroupData → ℕ → ℕ → ℕ → StateData → ℕ
least_total film set group zero state = 0
least_total film set group (suc n) state =
    least_over (λ paid. paid) (map (λ event. charge film set group state event
    + least_total film set group n (after state event)) (allowed film set group state))

-- the value of a group and its newcomers
abbrev pub arrivals_value : GroupData → ℕ → ℕ → ℕ → ℕ
arrivals_value film set group newcomers = least_total film set group (events_left group (at_first newcomers))
    (at_first newcomers)
