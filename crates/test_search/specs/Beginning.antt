-- Orders that begin with a given list.
use Rattle.std.specs.Prelude.{◌≡◌, ℕ, ◌≤◌, List, ◌++◌}
use Rattle.strip_model.specs.Film.{FilmData}
use Rattle.strip_model.specs.Order.{IsBefore, IsKeptOrder}
use Rattle.strip_model.specs.Pay.{pay_of}

-- the list begins with these numbers
abbrev pub BeginsWith : List ℕ → List ℕ → Type 0
BeginsWith begun list = (rest : List ℕ) × (list ≡ begun ++ rest)

-- the first of the cheapest among the orders that keep the pairs and begin with these scenes
pub record IsFirstCheapestFrom (film : FilmData) (begun order : List ℕ) : Type 0 where
  pub is_kept : IsKeptOrder film order
  pub begins : BeginsWith begun order
  pub least : (other : List ℕ) → IsKeptOrder film other → BeginsWith begun other → pay_of film order ≤ pay_of film other
  pub first : (other : List ℕ) → IsKeptOrder film other → BeginsWith begun other
      → pay_of film other ≡ pay_of film order → ¬ IsBefore other order
