-- Ways from a scene to another along pairs, and which of them is the shortest.
use Rattle.std.specs.Prelude.{◌≡◌, ℕ, ◌≤◌, List, [], ◌∷◌, ◌++◌, length}
use Rattle.strip_model.specs.declared.pair.Pair.{Pair}
use Rattle.strip_model.specs.Order.{IsBefore}
use Rattle.strip_model.specs.Pairs.{IsChain}

-- a way from the one scene to the other: a pair puts each scene of it before the next
pub record IsWay (pairs : List Pair) (from to : ℕ) (scenes : List ℕ) : Type 0 where
  pub between : List ℕ
  pub ends : scenes ≡ from ∷ between ++ to ∷ []
  pub chain : IsChain pairs scenes

-- the way that has the fewest scenes, and of those with as many comes first by the scenes' numbers
pub record IsShortestWay (pairs : List Pair) (from to : ℕ) (scenes : List ℕ) : Type 0 where
  pub way : IsWay pairs from to scenes
  pub fewest : (other : List ℕ) → IsWay pairs from to other → length scenes ≤ length other
  pub first : (other : List ℕ) → IsWay pairs from to other → length other ≡ length scenes → ¬ IsBefore other scenes
