-- The first of the cheapest orders.
use Rattle.std.specs.Prelude.{◌≡◌, ℕ, List}
use Rattle.strip_model.specs.Film.{FilmData}
use Rattle.strip_model.specs.Order.{IsBefore, IsKeptOrder}
use Rattle.strip_model.specs.Pay.{IsLeast, pay_of}

-- of the film's orders that keep the pairs, none pays less, and none that pays the same comes before
pub record IsFirstCheapest (film : FilmData) (order : List ℕ) : Type 0 where
  pub is_kept : IsKeptOrder film order
  pub least : IsLeast film (pay_of film order)
  pub first : (other : List ℕ) → IsKeptOrder film other → pay_of film other ≡ pay_of film order → ¬ IsBefore other order
