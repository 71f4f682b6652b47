-- The rows of a stage: what is tried first, who may leave, and numbers that a pass has lowered.
use Rattle.std.proofs.Common.{◌≡◌, ℕ, ◌+◌, ◌^◌, ◌<◌, ◌≤◌, ◌⊎◌, true, List, Contains}
use Rattle.strip_mask.specs.Set.{has, size, without}
use Rattle.strip_group.specs.Group.{GroupData}
use Rattle.strip_group.specs.Places.{actor_at}
use Rattle.strip_arrivals.specs.Arrivals.{Event, StateData, allowed, comes, goes, leaves}
use Rattle.strip_arrivals.specs.Company.{staying}
use Rattle.strip_arrivals.specs.Gross.{IsBest, gross_charge}

-- a newcomer comes or goes
abbrev pub OfNewcomers : Event → Type 0
OfNewcomers event = (actor : ℕ) × ((event ≡ comes actor) ⊎ (event ≡ goes actor))

-- the least by what happens next to newcomers
abbrev pub IsBegun : GroupData → ℕ → ℕ → ℕ → ℕ → List ℕ → ℕ → (ℕ → ℕ) → Type 0
IsBegun film set group never coming here gone first =
    (places : ℕ) → places < 2 ^ size group → IsBest film set group never
    (staying group coming here gone places) OfNewcomers (first places)

-- one of the group may leave, at this cost
pub record IsLeaving (film : GroupData) (set group : ℕ) (state : StateData) (actor cost : ℕ) : Type 0 where
  pub may : Contains (allowed film set group state) (leaves actor)
  pub charged : cost ≡ gross_charge film set group state (leaves actor)

-- each of the group who is still here may leave
abbrev pub AreLeaving : GroupData → ℕ → ℕ → ℕ → List ℕ → ℕ → (ℕ → ℕ → ℕ) → Type 0
AreLeaving film set group coming here gone cost = (places place : ℕ) → places < 2 ^ size group
    → has places place ≡ true
    → IsLeaving film set group (staying group coming here gone places) (actor_at group place)
    (cost places (without places place))

-- the least numbers: of each set its first one, or that of the set without one of its places and the cost to come from
-- there
pub record IsLowered (places : ℕ) (cost : ℕ → ℕ → ℕ) (first least : ℕ → ℕ) : Type 0 where
  pub kept : (set : ℕ) → set < 2 ^ places → least set ≤ first set
  pub lower : (set place : ℕ) → set < 2 ^ places → has set place ≡ true
      → least set ≤ least (without set place) + cost set (without set place)
  pub attained : (set : ℕ) → set < 2 ^ places → (least set ≡ first set) ⊎ ((place : ℕ) × (has set place ≡ true)
      × (least set ≡ least (without set place) + cost set (without set place)))
