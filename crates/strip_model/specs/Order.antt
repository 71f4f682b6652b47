-- Orders of the scenes, the orders that keep the pairs, and which of two lists comes first.
use Rattle.std.specs.Prelude.{◌≡◌, ℕ, ◌<◌, ◌⊎◌, ◌==◌, List, [], ◌∷◌, ⊤, All, Contains, length, count_by}
use Rattle.strip_model.specs.declared.pair.Pair.{Pair}
use Rattle.strip_model.specs.Film.{FilmData}

-- an order of n scenes: each scene number exactly once, and no other number
pub record IsOrder (n : ℕ) (order : List ℕ) : Type 0 where
  pub known : All (λ scene. scene < n) order
  pub once : (scene : ℕ) → scene < n → count_by (λ x. x == scene) order ≡ 1

-- the first number stands in the list, and the second somewhere behind it
abbrev pub StandsBefore : ℕ → ℕ → List ℕ → Type 0
StandsBefore first second [] = ⊥
StandsBefore first second (x ∷ xs) = ((x ≡ first) × Contains xs second) ⊎ StandsBefore first second xs

-- the first scene of the pair stands before the other
abbrev pub KeepsPair : List ℕ → Pair → Type 0
KeepsPair order pair = StandsBefore pair.first pair.then order

-- the list keeps each of the pairs
abbrev pub Keeps : List Pair → List ℕ → Type 0
Keeps pairs order = All (KeepsPair order) pairs

-- an order of the film's scenes that keeps its pairs
pub record IsKeptOrder (film : FilmData) (order : List ℕ) : Type 0 where
  pub is_order : IsOrder (length film.casts) order
  pub keeps : Keeps film.pairs order

-- the first list comes before the second: at the first place where they differ it has the lesser number, or it ends
-- there
abbrev pub IsBefore : List ℕ → List ℕ → Type 0
IsBefore xs [] = ⊥
IsBefore [] (y ∷ ys) = ⊤
IsBefore (x ∷ xs) (y ∷ ys) = (x < y) ⊎ ((x ≡ y) × IsBefore xs ys)
