-- What a reduction keeps.
use Rattle.std.specs.Prelude.{◌≡◌, ◌↔◌, ℕ, ◌+◌, List, length}
use Rattle.strip_model.specs.Film.{FilmData}
use Rattle.strip_model.specs.Order.{IsOrder, Keeps}
use Rattle.strip_model.specs.Pay.{IsOptimum, pay_of}
use Rattle.strip_reduce.specs.State.{State, way_back}

-- the state stands for the film that it began with: an order of its scenes has a way back, which is an order of the
-- film's, keeps the film's pairs exactly where the order keeps the state's, and pays what the order pays and what
-- is set apart; and so much is between the optima
pub record StandsFor (first : FilmData) (state : State) : Type 0 where
  pub order : (order : List ℕ) → IsOrder (length state.film.casts) order
      → IsOrder (length first.casts) (way_back state.members order)
  pub kept : (order : List ℕ) → IsOrder (length state.film.casts) order
      → Keeps first.pairs (way_back state.members order) ↔ Keeps state.film.pairs order
  pub pay : (order : List ℕ) → IsOrder (length state.film.casts) order
      → pay_of first (way_back state.members order) ≡ pay_of state.film order + state.apart
  pub optimum : (cost : ℕ) → IsOptimum state.film cost ↔ IsOptimum first (cost + state.apart)

-- a step sets apart what the optimum falls by
pub record KeepsOptimum (before after : State) : Type 0 where
  pub fell : ℕ
  pub apart : after.apart ≡ before.apart + fell
  pub optimum : (cost : ℕ) → IsOptimum after.film cost ↔ IsOptimum before.film (cost + fell)
