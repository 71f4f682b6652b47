-- The places that one scene of an order is tried at.
use Rattle.std.specs.Prelude.{ℕ, ◌<◌, ◌≤◌, List}
use Rattle.strip_model.specs.Film.{FilmData}
use Rattle.strip_start.specs.Moves.{IsBetter}

-- the scene is better put at no place from the first up to the second, which is not tried
abbrev pub NoPlace : FilmData → List ℕ → ℕ → ℕ → ℕ → Type 0
NoPlace film order from start end = (to : ℕ) → start ≤ to → to < end → ¬ IsBetter film order from to

-- the scene is better put at this place, and at none before it
pub record IsFirstPlace (film : FilmData) (order : List ℕ) (from to : ℕ) : Type 0 where
  pub better : IsBetter film order from to
  pub first : (earlier : ℕ) → earlier < to → ¬ IsBetter film order from earlier
