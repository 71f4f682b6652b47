-- The order of a film's rows.
use Rattle.std.specs.Prelude.{◌≡◌, ℕ, ◌-◌, ◌^◌, Option, None, Some, List, length, min}
use Rattle.strip_mask.specs.Set.{numbers_below}
use Rattle.strip_model.specs.Film.{FilmData}
use Rattle.strip_model.specs.Order.{IsKeptOrder}
use Rattle.strip_model.specs.Pay.{pay_of}
use Rattle.strip_solve.specs.declared.own.Own.{Own}

-- the scenes as they are numbered
abbrev pub own_order : FilmData → List ℕ
own_order film = numbers_below (length film.casts)

-- this order and what it costs; none if it breaks a pair
abbrev pub IsOwn : FilmData → Option Own → Type 0
IsOwn film None = ¬ IsKeptOrder film (own_order film)
IsOwn film (Some own) =
    (own.order.items ≡ own_order film) × IsKeptOrder film (own_order film) × (own.cost ≡ pay_of film (own_order film))

-- what it costs but for what is set apart; more than any order costs if it breaks a pair
abbrev pub own_cost : Option Own → ℕ → ℕ
own_cost None apart = 2 ^ 64 - 1
own_cost (Some own) apart = own.cost - apart

-- the lesser of a cost and of what it costs, if it keeps the pairs
abbrev pub or_own : ℕ → Option Own → ℕ
or_own cost None = cost
or_own cost (Some own) = min cost own.cost
