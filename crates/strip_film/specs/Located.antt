-- Where an actor works, and which scenes are ready, by scenes.
use Rattle.std.specs.Prelude.{◌≡◌, ℕ, ◌<◌, true, false, length}
use Rattle.strip_mask.specs.Set.{has}
use Rattle.strip_model.specs.Film.{FilmData}
use Rattle.strip_model.specs.Pairs.{Precedes}
use Rattle.strip_model.specs.Pay.{works}

-- the actor works in some scene of the set
abbrev pub WorksInside : FilmData → ℕ → ℕ → Type 0
WorksInside film set actor = (scene : ℕ) × (has set scene ≡ true) × (works film actor scene ≡ true)

-- the actor works in some scene of the film outside the set
abbrev pub WorksOutside : FilmData → ℕ → ℕ → Type 0
WorksOutside film set actor =
    (scene : ℕ) × (scene < length film.casts) × (has set scene ≡ false) × (works film actor scene ≡ true)

-- the scene is in the set, and no scene of the set has to come before it
pub record IsReady (film : FilmData) (set scene : ℕ) : Type 0 where
  pub member : has set scene ≡ true
  pub first : (earlier : ℕ) → Precedes film.pairs earlier scene → has set earlier ≡ false
