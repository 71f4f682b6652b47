-- The least value over a list.
use Rattle.std.specs.Prelude.{ℕ, min, List, [], ◌∷◌}

-- the least of the values at a number and at those of a list
abbrev pub least_at : (ℕ → ℕ) → ℕ → List ℕ → ℕ
least_at f x [] = f x
least_at f x (y ∷ ys) = min (f x) (least_at f y ys)

-- the least over the members of a list; 0 where there is none
abbrev pub least_over : (ℕ → ℕ) → List ℕ → ℕ
least_over f [] = 0
least_over f (x ∷ xs) = least_at f x xs
