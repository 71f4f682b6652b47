-- The actors of a group by place, the least at place 0: sets of them as sets of places.
use Rattle.std.specs.Prelude.{ℕ, zero, suc, ◌≡◌, ◌<◌, ◌≤◌, cond, not, List, length, sum, slice_index}
use Rattle.strip_mask.specs.Set.{has, members, size, with}
use Rattle.strip_group.specs.Group.{GroupData}

-- the limits of a film of at most 64 scenes
pub record IsLimited (film : GroupData) : Type 0 where
  pub scene_count : length film.casts ≤ 64
  pub day_count : length film.days ≡ length film.casts
  pub actor_count : length film.holds ≤ 64
  pub day_sum : sum film.days ≤ 19800
  pub hold_sum : sum film.holds ≤ 64000000000

-- for each actor the scenes without him
pub record AreStays (casts stays : List ℕ) (actors : ℕ) : Type 0 where
  pub count : length stays ≡ actors
  pub each : (actor scene : ℕ) → actor < actors → scene < length casts
      → has (slice_index stays actor) scene ≡ not (has (slice_index casts scene) actor)

-- a film within the limits, and for each actor the scenes without him
pub record IsTable (casts stays days holds : List ℕ) : Type 0 where
  pub limits : IsLimited (record { casts = casts; days = days; holds = holds })
  pub told : AreStays casts stays (length holds)

abbrev pub actor_at : ℕ → ℕ → ℕ
actor_at group place = slice_index (members group) place

-- the actors at those of the first places that a set has
abbrev pub picked : ℕ → ℕ → ℕ → ℕ
picked group set zero = 0
picked group set (suc place) = cond {A = ℕ} (has set place) (with (picked group set place) (actor_at group place))
    (picked group set place)

abbrev pub pick : ℕ → ℕ → ℕ
pick group set = picked group set (size group)
