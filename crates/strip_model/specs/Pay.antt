-- What an order pays, by each actor's first and last scene in it.
use Rattle.std.specs.Prelude.{◌≡◌, ℕ, ◌*◌, ◌≤◌, Bool, if◌then◌else◌, List, [], ◌∷◌, length, reverse, sum_by, slice_index}
use Rattle.strip_mask.specs.Set.{has}
use Rattle.strip_mask.specs.Sums.{sum_below}
use Rattle.strip_model.specs.Film.{FilmData}
use Rattle.strip_model.specs.Order.{IsKeptOrder}

-- whether the actor works in the scene
abbrev pub works : FilmData → ℕ → ℕ → Bool
works film actor scene = has (slice_index film.casts scene) actor

-- the list from the first number that passes on; empty where none passes
abbrev pub from_first : (ℕ → Bool) → List ℕ → List ℕ
from_first p [] = []
from_first p (x ∷ xs) = if p x then x ∷ xs else from_first p xs

-- the list up to the last number that passes, which is the first from behind
abbrev pub to_last : (ℕ → Bool) → List ℕ → List ℕ
to_last p xs = reverse (from_first p (reverse xs))

-- the scenes from the actor's first in the order to his last
abbrev pub span : FilmData → List ℕ → ℕ → List ℕ
span film order actor = to_last (works film actor) (from_first (works film actor) order)

-- what the actor gets for a scene of his span: its days at his rate where he works in it, else at his hold rate
abbrev pub day_pay : FilmData → ℕ → ℕ → ℕ
day_pay film actor scene =
    slice_index film.days scene * (if works film actor scene then slice_index film.rates actor else slice_index film.holds actor)

-- the pay of an order: what each actor gets for the scenes of his span
abbrev pub pay_of : FilmData → List ℕ → ℕ
pay_of film order = sum_below (length film.rates) (λ actor. sum_by (day_pay film actor) (span film order actor))

-- no order that keeps the pairs pays less
abbrev pub IsLeast : FilmData → ℕ → Type 0
IsLeast film pay = (order : List ℕ) → IsKeptOrder film order → pay ≤ pay_of film order

-- the optimum: some order that keeps the pairs pays this, and none pays less
pub record IsOptimum (film : FilmData) (pay : ℕ) : Type 0 where
  pub attained : (order : List ℕ) × IsKeptOrder film order × (pay_of film order ≡ pay)
  pub least : IsLeast film pay

-- the order keeps the pairs and pays this, and no order that keeps them pays less
pub record IsBestOrder (film : FilmData) (order : List ℕ) (pay : ℕ) : Type 0 where
  pub is_kept : IsKeptOrder film order
  pub pays : pay_of film order ≡ pay
  pub least : IsLeast film pay
