-- What a search goes by.
use Rattle.std.specs.Prelude.{◌≡◌, ◌≢◌, ℕ, true}
use Rattle.strip_mask.specs.Set.{has, without}
use Rattle.strip_model.specs.Film.{FilmData}
use Rattle.strip_film.specs.Film.{LiesIn, all_scenes}
use Rattle.strip_film.specs.Shoot.{ready, step_cost}
use Rattle.strip_film.specs.Finish.{AreFirsts, IsAtMostFinish, BeginsLeast}
use Rattle.strip_film.specs.Path.{PathData, IsPath}

-- the film, the static bound of each set, which scenes of a set may be shot first, and what a path promises that
-- has paid so much and leaves a set: the lesser goes first
pub record Rules : Type 0 where
  pub film : FilmData
  pub bound : ℕ → ℕ
  pub firsts : ℕ → ℕ
  pub promise : ℕ → ℕ → ℕ

-- the rank of a scene of a set: what shooting it first promises
abbrev pub rank : Rules → ℕ → ℕ → ℕ
rank rules set scene = rules.promise (step_cost rules.film set scene) (without set scene)

-- an open path: each of its scenes was one that may be first
abbrev pub IsOpen : Rules → PathData → Type 0
IsOpen rules path = IsPath rules.film path × AreFirsts rules.firsts (all_scenes rules.film) path.scenes

-- the static bound of each set of the film is at most the cost of finishing it
abbrev pub BoundsFinish : Rules → Type 0
BoundsFinish rules = (set : ℕ) → LiesIn rules.film set → IsAtMostFinish rules.film set (rules.bound set)

-- each set of the film that isn't empty has among its firsts one that begins a least tail
abbrev pub BeginLeast : Rules → Type 0
BeginLeast rules =
    (set : ℕ) → LiesIn rules.film set → set ≢ 0
    → (scene : ℕ) × (has (rules.firsts set) scene ≡ true) × BeginsLeast rules.film set scene

-- the firsts of each set of the film are ready scenes of it
abbrev pub FirstsAreReady : Rules → Type 0
FirstsAreReady rules =
    (set scene : ℕ) → LiesIn rules.film set → has (rules.firsts set) scene ≡ true
    → has (ready rules.film set) scene ≡ true
