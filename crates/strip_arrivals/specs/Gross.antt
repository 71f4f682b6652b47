-- Totals with what those who work in a scene of the group get for its days beside: so a scene's price goes by the
-- newcomers in it alone, and what was added is taken off at the end.
use Rattle.std.specs.Prelude.{◌≡◌, ℕ, suc, ◌+◌, ◌*◌, ◌≤◌, ◌==◌, ◌⊎◌, cond, Bool, ◌&&◌, Contains, drop, filter, length, take, slice_index}
use Rattle.strip_mask.specs.Set.{has, meet, minus, numbers_below, sum_over}
use Rattle.strip_mask.specs.Sums.{sum_below}
use Rattle.strip_mask.specs.Least.{least_over}
use Rattle.strip_group.specs.Group.{GroupData}
use Rattle.strip_arrivals.specs.Arrivals.{Event, IsLeastTotal, IsOver, StateData, actors_of, after, comes, goes, leaves, allowed, is_open, mates}

-- the days of the scenes of a set, each at a rate of its own
abbrev pub weighted : GroupData → (ℕ → Bool) → (ℕ → ℕ) → ℕ
weighted film test rate = sum_below 64 (λ scene. cond {A = ℕ} (test scene) (slice_index film.days scene * rate scene) 0)

-- what those who came are paid for waiting on a day of a scene with this cast, and those of the group who had to
-- wait for them, where so many had come by then
abbrev pub paid_by : GroupData → ℕ → StateData → ℕ → ℕ → ℕ
paid_by film set state cast number =
    sum_over film.holds (minus (actors_of (take number state.here)) cast)
    + sum_over film.holds (meet state.left (mates film set (actors_of (drop number state.here))))

-- the least of it, over the numbers of those who can have come
abbrev pub least_paid : GroupData → ℕ → StateData → ℕ → ℕ
least_paid film set state cast =
    least_over (paid_by film set state cast)
    (filter (λ number. meet cast (actors_of (drop number state.here)) == 0) (numbers_below (suc (length state.here))))

-- the price of a day of a scene with this cast, those of the group who work in it and are here beside
abbrev pub gross_price : GroupData → ℕ → ℕ → StateData → ℕ → ℕ
gross_price film set group state cast = sum_over film.holds (minus group state.left) + least_paid film set state cast

-- the open scenes that are paid for when this happens
abbrev pub closes : GroupData → ℕ → StateData → Event → ℕ → Bool
closes film set state (comes actor) scene = has 0 scene
closes film set state (leaves actor) scene = has set scene
    && (is_open film state scene && has (slice_index film.casts scene) actor)
closes film set state (goes actor) scene = has set scene
    && (is_open film state scene && has (slice_index film.casts scene) actor)

-- what is paid for them, those of the group who work in them beside
abbrev pub gross_charge : GroupData → ℕ → ℕ → StateData → Event → ℕ
gross_charge film set group state event =
    weighted film (closes film set state event) (λ scene. gross_price film set group state
    (slice_index film.casts scene))

-- what those of the group who work in the open scenes get for their days
abbrev pub own_pay : GroupData → ℕ → ℕ → StateData → ℕ
own_pay film set group state =
    weighted film (λ scene. has set scene && is_open film state scene)
    (λ scene. sum_over film.holds (meet (slice_index film.casts scene) group))

-- a least total with what was added
pub record IsGross (film : GroupData) (set group : ℕ) (state : StateData) (gross : ℕ) : Type 0 where
  pub net : ℕ
  pub is_least : IsLeastTotal film set group state net
  pub added : gross ≡ net + own_pay film set group state

-- the least by what can happen first, as far as these events were tried: a way to it, and no less by any of them;
-- from `never` on nothing is said
pub record IsBest (film : GroupData) (set group never : ℕ) (state : StateData) (tried : Event → Type 0) (least : ℕ) : Type 0 where
  pub over : IsOver group state → least ≡ 0
  pub no_more : (event : Event) → Contains (allowed film set group state) event → tried event
      → (later : ℕ) × IsGross film set group (after state event) later
      × (least ≤ gross_charge film set group state event + later)
  pub attained : (never ≤ least) ⊎ IsOver group state
      ⊎ ((event : Event) × Contains (allowed film set group state) event
      × ((later : ℕ) × IsGross film set group (after state event) later
      × (least ≡ gross_charge film set group state event + later)))
