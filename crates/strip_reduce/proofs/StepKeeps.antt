-- What each step keeps, order by order.
use Rattle.std.proofs.Common.{◌≡◌, ◌↔◌, ℕ, ◌+◌, ◌≤◌, List, length}
use Rattle.strip_model.specs.Order.{IsOrder, IsKeptOrder, Keeps}
use Rattle.strip_model.specs.Pay.{pay_of}
use Rattle.strip_reduce.specs.State.{State, way_back}

-- an order of the scenes after a step has a way back to those before it
pub record IsBackFrom (before after : State) (fell : ℕ) (order : List ℕ) : Type 0 where
  pub earlier : List ℕ
  pub is_order : IsOrder (length before.film.casts) earlier
  pub kept : Keeps before.film.pairs earlier ↔ Keeps after.film.pairs order
  pub pay : pay_of before.film earlier ≡ pay_of after.film order + fell
  pub members : way_back before.members earlier ≡ way_back after.members order

-- each order has a way back, and each order that keeps the pairs has one after the step that costs no more
pub record StepKeeps (before after : State) : Type 0 where
  pub fell : ℕ
  pub apart : after.apart ≡ before.apart + fell
  pub classes : length after.members ≡ length after.film.casts
  pub back : (order : List ℕ) → IsOrder (length after.film.casts) order → IsBackFrom before after fell order
  pub forth : (order : List ℕ) → IsKeptOrder before.film order
      → (later : List ℕ) × IsKeptOrder after.film later × (pay_of after.film later + fell ≤ pay_of before.film order)
