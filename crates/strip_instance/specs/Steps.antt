-- How many steps along pairs scenes are from the last one of a way.
use Rattle.std.specs.Prelude.{◌≡◌, ℕ, zero, suc, ◌+◌, ◌<◌, ◌≤◌, List, Contains, slice_index}
use Rattle.strip_model.specs.declared.pair.Pair.{Pair}
use Rattle.strip_model.specs.Pairs.{Precedes}

-- pairs lead from the scene to the last one by this many steps
abbrev pub StepsTo : List Pair → ℕ → ℕ → ℕ → Type 0
StepsTo pairs to zero scene = scene ≡ to
StepsTo pairs to (suc steps) scene = (next : ℕ) × Precedes pairs scene next × StepsTo pairs to steps next

-- where fewer than 200 steps are told for a scene, pairs lead on by as many
abbrev pub AreSound : List Pair → ℕ → List ℕ → Type 0
AreSound pairs to steps = (scene : ℕ) → scene < 200 → slice_index steps scene < 200
    → StepsTo pairs to (slice_index steps scene) scene

-- for each scene the least number of steps is told; 200 where that is as many or more, or there is none
pub record AreSteps (pairs : List Pair) (to : ℕ) (steps : List ℕ) : Type 0 where
  pub sound : AreSound pairs to steps
  pub least : (scene count : ℕ) → scene < 200 → StepsTo pairs to count scene → slice_index steps scene ≤ count
  pub small : (scene : ℕ) → slice_index steps scene ≤ 200

-- no number of steps rose, none is further than a step by a pair from what was told, and all are still of ways
pub record CameCloser (pairs : List Pair) (before after : List ℕ) : Type 0 where
  pub less : (scene : ℕ) → slice_index after scene ≤ slice_index before scene
  pub by_pairs : (pair : Pair) → Contains pairs pair → slice_index after pair.first ≤ slice_index before pair.then + 1
  pub sound : (to : ℕ) → AreSound pairs to before → AreSound pairs to after

-- a pair leads from the scene to one that is a step nearer
abbrev pub Nears : List Pair → List ℕ → ℕ → ℕ → Type 0
Nears pairs steps scene next = Precedes pairs scene next × (slice_index steps next + 1 ≡ slice_index steps scene)

-- the least of the scenes that are a step nearer
pub record IsLeastNearer (pairs : List Pair) (steps : List ℕ) (scene next : ℕ) : Type 0 where
  pub nearer : Nears pairs steps scene next
  pub least : (other : ℕ) → Nears pairs steps scene other → next ≤ other
