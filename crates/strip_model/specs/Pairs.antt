-- Pairs that can be kept together.
use Rattle.std.specs.Prelude.{◌≢◌, ℕ, ◌<◌, List, [], ◌∷◌, ◌++◌, All, Contains}
use Rattle.std.specs.List.{AllPairs}
use Rattle.strip_model.specs.declared.pair.Pair.{Pair}

-- a pair of the list puts the one scene before the other
abbrev pub Precedes : List Pair → ℕ → ℕ → Type 0
Precedes pairs first second = Contains pairs (record { first = first; then = second })

-- each scene of the list has to be shot before the next
abbrev pub IsChain : List Pair → List ℕ → Type 0
IsChain pairs [] = Unit {0}
IsChain pairs (scene ∷ []) = Unit {0}
IsChain pairs (scene ∷ next ∷ later) = Precedes pairs scene next × IsChain pairs (next ∷ later)

-- a chain leads from the one scene to the other
abbrev pub Leads : List Pair → ℕ → ℕ → Type 0
Leads pairs from to = (between : List ℕ) × IsChain pairs (from ∷ between ++ to ∷ [])

-- a chain leads from a scene back to it
pub record HasCycle (pairs : List Pair) : Type 0 where
  pub scene : ℕ
  pub between : List ℕ
  pub returns : IsChain pairs (scene ∷ between ++ scene ∷ [])

-- a pair of two different scenes below n
abbrev pub IsKnownPair : ℕ → Pair → Type 0
IsKnownPair n pair = (pair.first < n) × (pair.then < n) × (pair.first ≢ pair.then)

-- pairs that n scenes can have: two different scenes each, no pair twice, no cycle
pub record FitPairs (n : ℕ) (pairs : List Pair) : Type 0 where
  pub known : All (IsKnownPair n) pairs
  pub once : AllPairs (λ a b. a ≢ b) pairs
  pub no_cycle : ¬ HasCycle pairs
