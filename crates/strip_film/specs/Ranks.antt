-- Which of two scenes goes first, and which of two paths.
use Rattle.std.specs.Prelude.{◌≡◌, ℕ, ◌<◌, ◌⊎◌, List, [], ◌∷◌, ⊤}
use Rattle.strip_mask.specs.Set.{without}
use Rattle.strip_film.specs.Rules.{Rules, rank}

-- the first scene goes before the second: its rank is less, or the ranks are equal and its number is less
abbrev pub IsSooner : (ℕ → ℕ) → ℕ → ℕ → Type 0
IsSooner ranks scene other = (ranks scene < ranks other) ⊎ ((ranks scene ≡ ranks other) × (scene < other))

-- the first list comes before the second, both shot from a set: it ends where the other goes on, or where the two
-- part its scene goes first among what then remains
abbrev pub IsEarlier : Rules → ℕ → List ℕ → List ℕ → Type 0
IsEarlier rules set xs [] = ⊥
IsEarlier rules set [] (y ∷ ys) = ⊤
IsEarlier rules set (x ∷ xs) (y ∷ ys) = IsSooner (rank rules set) x y
    ⊎ ((x ≡ y) × IsEarlier rules (without set x) xs ys)
