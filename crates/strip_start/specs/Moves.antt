-- An order that is improved by moves: one scene is taken out and put back at another place.
use Rattle.std.specs.Prelude.{◌≡◌, ℕ, zero, suc, ◌+◌, ◌<◌, ◌≤◌, ◌⊎◌, List, ◌∷◌, ◌++◌, length, take, drop, slice_index}
use Rattle.strip_model.specs.Film.{FilmData}
use Rattle.strip_film.specs.Film.{all_scenes}
use Rattle.strip_film.specs.Finish.{EachOnce, steps_cost}

-- the list without its number at this place
abbrev pub taken_out : ℕ → List ℕ → List ℕ
taken_out place order = take place order ++ drop (place + 1) order

-- the list with the number put in, so that it stands at this place
abbrev pub put_in : ℕ → ℕ → List ℕ → List ℕ
put_in place scene rest = take place rest ++ scene ∷ drop place rest

-- the order with the scene at one place taken out and put back so that it stands at the other
abbrev pub moved : List ℕ → ℕ → ℕ → List ℕ
moved order from to = put_in to (slice_index order from) (taken_out from order)

-- the move is between places of the order, and the moved order keeps the pairs and costs less; so the places differ
pub record IsBetter (film : FilmData) (order : List ℕ) (from to : ℕ) : Type 0 where
  pub taken : from < length order
  pub put : to < length order
  pub once : EachOnce film (all_scenes film) (moved order from to)
  pub cheaper : steps_cost film (all_scenes film) (moved order from to) < steps_cost film (all_scenes film) order

-- no move of the order is better
abbrev pub NoneBetter : FilmData → List ℕ → Type 0
NoneBetter film order = (from to : ℕ) → ¬ IsBetter film order from to

-- moves are tried by the place of the scene, and then by the place that it is put at
abbrev pub IsTriedBefore : ℕ → ℕ → ℕ → ℕ → Type 0
IsTriedBefore from to later_from later_to = (from < later_from) ⊎ ((from ≡ later_from) × (to < later_to))

-- the move is better, and none that is tried before it is
pub record IsFirstMove (film : FilmData) (order : List ℕ) (from to : ℕ) : Type 0 where
  pub better : IsBetter film order from to
  pub first : (earlier_from earlier_to : ℕ) → IsTriedBefore earlier_from earlier_to from to
      → ¬ IsBetter film order earlier_from earlier_to

-- so many first moves, one after the other, lead from the order to the best
abbrev pub Improves : FilmData → ℕ → List ℕ → List ℕ → Type 0
Improves film zero order best = order ≡ best
Improves film (suc moves) order best =
    (from : ℕ) × (to : ℕ) × IsFirstMove film order from to × Improves film moves (moved order from to) best

-- first moves lead from the order to the best until no move is better, or 64 of them were taken
pub record IsImproved (film : FilmData) (order best : List ℕ) : Type 0 where
  pub moves : ℕ
  pub few : moves ≤ 64
  pub chain : Improves film moves order best
  pub ends : (moves ≡ 64) ⊎ NoneBetter film best
