-- A group and its newcomers on a set of scenes, with numbers for each set of the places of those of the group who
-- are still here.
use Rattle.std.specs.Prelude.{◌≡◌, ◌≢◌, ℕ, ◌+◌, ◌-◌, ◌*◌, ◌^◌, ◌<◌, ◌≤◌, ◌==◌, ◌⊎◌, ◌||◌, Bool, true, false, List, [], ◌∷◌, All, filter, length, min, slice_index}
use Rattle.strip_mask.specs.Set.{IsSet, LiesBelow, full, has, meet, members, minus, size, sum_over, with}
use Rattle.strip_group.specs.Group.{GroupData}
use Rattle.strip_group.specs.Places.{IsLimited, actor_at, pick}
use Rattle.strip_arrivals.specs.Arrivals.{StateData, actors_of, is_without, mates}
use Rattle.strip_arrivals.specs.declared.crew.Crew.{Crew}
use Rattle.strip_arrivals.specs.declared.party.Arrived.{Arrived}
use Rattle.strip_arrivals.specs.declared.party.Both.{Both}
use Rattle.strip_arrivals.specs.declared.party.Newcomer.{Newcomer}
use Rattle.strip_arrivals.specs.declared.party.Party.{Party}
use Rattle.strip_arrivals.specs.Gross.{IsGross, gross_price}

-- for each actor the scenes in which he works
pub record ArePlays (casts plays : List ℕ) (actors : ℕ) : Type 0 where
  pub count : length plays ≡ actors
  pub each : (actor scene : ℕ) → actor < actors → has (slice_index plays actor) scene
      ≡ has (slice_index casts scene) actor

-- a film within the limits, each scene of which has days, for each actor the scenes in which he works, and the days
-- of 64 scenes
pub record IsTable (casts plays long_days days holds : List ℕ) : Type 0 where
  pub limits : IsLimited (record { casts = casts; days = days; holds = holds })
  pub some_days : All (λ count. 0 < count) days
  pub told : ArePlays casts plays (length holds)
  pub long : length long_days ≡ 64
  pub same : (scene : ℕ) → slice_index long_days scene ≡ slice_index days scene

-- a group and newcomers, none of whom is of the group, on a set of a film's scenes, each of which has days
pub record IsCompany (film : GroupData) (set group newcomers : ℕ) : Type 0 where
  pub limits : IsLimited film
  pub some_days : All (λ count. 0 < count) film.days
  pub small_set : IsSet set
  pub small : IsSet group
  pub few : size group ≤ 10
  pub small_newcomers : IsSet newcomers
  pub few_newcomers : size newcomers ≤ 2
  pub known : LiesBelow (length film.holds) group
  pub known_newcomers : LiesBelow (length film.holds) newcomers
  pub apart : (actor : ℕ) → has newcomers actor ≡ true → has group actor ≡ false

-- the most that all of them are paid on the days of the set
abbrev pub most_paid : GroupData → ℕ → ℕ → ℕ → ℕ
most_paid film set group newcomers = sum_over film.days set * (sum_over film.holds group
    + sum_over film.holds newcomers)

-- each newcomer is to come, is here or is gone, and only one of it
pub record IsStage (newcomers coming : ℕ) (here : List ℕ) (gone : ℕ) : Type 0 where
  pub whole : (actor : ℕ) → has newcomers actor ≡ (has coming actor || (has (actors_of here) actor || has gone actor))
  pub not_both : (actor : ℕ) → has coming actor ≡ true → (has (actors_of here) actor ≡ false) × (has gone actor ≡ false)
  pub not_gone : (actor : ℕ) → has (actors_of here) actor ≡ true → has gone actor ≡ false
  pub once : (first second : ℕ) → here ≡ first ∷ second ∷ [] → first ≢ second
  pub small : IsSet coming

-- two newcomers, and no other
pub record ArePair (newcomers one other : ℕ) : Type 0 where
  pub one_comes : has newcomers one ≡ true
  pub other_comes : has newcomers other ≡ true
  pub apart : one ≢ other
  pub only : (actor : ℕ) → has newcomers actor ≡ true → (actor ≡ one) ⊎ (actor ≡ other)

-- where of the group those at these places are still here
abbrev pub staying : ℕ → ℕ → List ℕ → ℕ → ℕ → StateData
staying group coming here gone places = record { left = minus group (pick group places); coming = coming; here = here; gone = gone }

-- ---- scenes

-- the scenes of a set that pass a test
abbrev pub scenes_where : (ℕ → Bool) → ℕ → ℕ
scenes_where test set = actors_of (filter test (members set))

-- those in which of the group only such work as are at these places
abbrev pub open_with : GroupData → ℕ → ℕ → ℕ → ℕ
open_with film group places scenes = scenes_where (is_without film (minus group (pick group places))) scenes

-- those in which of the newcomers just these work
abbrev pub just : GroupData → ℕ → ℕ → ℕ → ℕ
just film newcomers these set = scenes_where (λ scene. meet (slice_index film.casts scene) newcomers == these) set

-- ---- numbers by the places of those who are still here

-- for each set of so many places the sum of the numbers of the scenes that are left open
abbrev pub AreCounted : GroupData → ℕ → ℕ → List ℕ → ℕ → (ℕ → ℕ) → Type 0
AreCounted film group count numbers scenes sums =
    (places : ℕ) → places < 2 ^ count → sums places ≡ sum_over numbers (open_with film group places scenes)

-- what those who are still here get together for a day of waiting
abbrev pub AreRates : GroupData → ℕ → ℕ → (ℕ → ℕ) → Type 0
AreRates film group count rates = (places : ℕ) → places < 2 ^ count
    → rates places ≡ sum_over film.holds (pick group places)

-- and what those get who have left and share a scene of the set with one of these actors
abbrev pub AreMates : GroupData → ℕ → ℕ → ℕ → List ℕ → (ℕ → ℕ) → Type 0
AreMates film set group count actors rates =
    (places : ℕ) → places < 2 ^ count → rates places
    ≡ sum_over film.holds (meet (minus group (pick group places)) (mates film set (actors_of actors)))

-- the price of a day of the scenes in which of the newcomers just these work
abbrev pub ArePrices : GroupData → ℕ → ℕ → ℕ → ℕ → List ℕ → ℕ → ℕ → (ℕ → ℕ) → Type 0
ArePrices film set group count coming here gone these prices =
    (places : ℕ) → places < 2 ^ count → prices places
    ≡ gross_price film set group (staying group coming here gone places) these

-- ---- rows

-- what a row saves of the most that can be paid: a number above all that is paid, what those who are here get on all open
-- days, and what else counts as saved. The rest is the least total of a stage, with what was added
pub record IsSaved (film : GroupData) (set group count coming : ℕ) (here : List ℕ) (gone never : ℕ) (holds : List ℕ)
    (days more row : ℕ → ℕ) : Type 0 where
  pub least : (places : ℕ) → places < 2 ^ size group
      → IsGross film set group (staying group coming here gone places)
      (never + sum_over holds places * days places + more places - row places)
  pub low : (places : ℕ) → places < 2 ^ count → never ≤ row places
  pub high : (places : ℕ) → places < 2 ^ count → row places ≤ never + sum_over holds places * days places + more places

-- ---- a group by places

-- a group on a set of scenes: for each scene the places of those of it who work there, by place what each gets for a
-- day of waiting, and what all get together
pub record IsCrew (count : ℕ) (film : GroupData) (crew : Crew) : Type 0 where
  pub casts_long : length crew.casts ≡ 64
  pub casts : (scene place : ℕ) → has crew.set.0 scene ≡ true → place < size crew.group.0
      → has (slice_index crew.casts scene) place ≡ has (slice_index film.casts scene) (actor_at crew.group.0 place)
  pub lies : (scene : ℕ) → LiesBelow (size crew.group.0) (slice_index crew.casts scene)
  pub holds_long : length crew.holds ≡ 10
  pub holds : (place : ℕ) → place < size crew.group.0
      → slice_index crew.holds place ≡ slice_index film.holds (actor_at crew.group.0 place)
  pub no_holds : (place : ℕ) → size crew.group.0 ≤ place → slice_index crew.holds place ≡ 0
  pub rates : AreRates film crew.group.0 count (sum_over crew.holds)
  pub rate : crew.rate ≡ sum_over crew.holds (full (size crew.group.0))
  pub fits : size crew.group.0 ≤ count

-- a group and its newcomers, with room for what they are paid: the days of the scenes without newcomers, and a
-- number that is more than anything that is paid. A table is a list of blocks, which tell a number for each set of places
pub record IsParty {B : Type 0} (value : List B → ℕ → ℕ) (count most : ℕ) (film : GroupData) (party : Party B) : Type 0 where
  pub few : count ≤ 10
  pub crew : IsCrew count film party.crew.now
  pub company : IsCompany film party.crew.now.set.0 party.crew.now.group.0 party.newcomers.0
  pub sized : length party.days.now ≡ 2 ^ party.higher
  pub days : AreCounted film party.crew.now.group.0 count film.days (just film party.newcomers.0 0 party.crew.now.set.0)
      (value party.days.now)
  pub enough : most_paid film party.crew.now.set.0 party.crew.now.group.0 party.newcomers.0 < party.never
  pub low : sum_over film.holds party.crew.now.group.0 + sum_over film.holds party.newcomers.0 < party.never
  pub room : 4 * party.never ≤ most
  pub wide : 2 ^ 32 - 1 ≤ most

-- one of the newcomers: the days of the scenes in which of them he alone works, those days with the days of the scenes
-- without newcomers, and how much more a day of the latter costs while he is here
pub record IsNewcomer {B : Type 0} (value : List B → ℕ → ℕ) (count : ℕ) (film : GroupData) (party : Party B) (one : Newcomer B) : Type 0 where
  pub comes : has party.newcomers.0 one.actor ≡ true
  pub hold : one.hold ≡ slice_index film.holds one.actor
  pub sized : (length one.days.now ≡ 2 ^ party.higher) × (length one.all.now ≡ 2 ^ party.higher)
      × (length one.extra.now ≡ 2 ^ party.higher)
  pub days : AreCounted film party.crew.now.group.0 count film.days
      (just film party.newcomers.0 (with 0 one.actor) party.crew.now.set.0) (value one.days.now)
  pub all : (places : ℕ) → places < 2 ^ count
      → value one.all.now places ≡ value party.days.now places + value one.days.now places
  pub mates : ℕ → ℕ
  pub are_mates : AreMates film party.crew.now.set.0 party.crew.now.group.0 count (one.actor ∷ []) mates
  pub extra : (places : ℕ) → places < 2 ^ count → value one.extra.now places ≡ min (mates places) one.hold

-- a newcomer with the row of the stage in which he is here and the others are gone
pub record IsArrived {B : Type 0} (value : List B → ℕ → ℕ) (count : ℕ) (film : GroupData) (party : Party B) (gone : ℕ)
    (arrived : Arrived B) : Type 0 where
  pub newcomer : IsNewcomer value count film party arrived.newcomer
  pub sized : length arrived.row.now ≡ 2 ^ party.higher
  pub saved : IsSaved film party.crew.now.set.0 party.crew.now.group.0 count 0 (arrived.newcomer.actor ∷ []) gone
      party.never party.crew.now.holds (value arrived.newcomer.all.now) (λ _. 0) (value arrived.row.now)

-- two newcomers: the days of all scenes, those of the scenes in which both work among them, and what those of the group
-- get who have left and share a scene with one of the two
pub record AreBoth {B : Type 0} (value : List B → ℕ → ℕ) (count : ℕ) (film : GroupData) (party : Party B) (one other : Newcomer B)
    (both : Both B) : Type 0 where
  pub sized : (length both.all.now ≡ 2 ^ party.higher) × (length both.mates.now ≡ 2 ^ party.higher)
  pub days : ℕ → ℕ
  pub are_days : AreCounted film party.crew.now.group.0 count film.days
      (just film party.newcomers.0 (with (with 0 one.actor) other.actor) party.crew.now.set.0) days
  pub all : (places : ℕ) → places < 2 ^ count → value both.all.now places
      ≡ value party.days.now places + value one.days.now places + value other.days.now places + days places
  pub are_mates : AreMates film party.crew.now.set.0 party.crew.now.group.0 count (one.actor ∷ other.actor ∷ []) (value both.mates.now)
