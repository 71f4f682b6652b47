-- A path that is moved in place, beside the numbers of its film that a search asks for at each step.
use Rattle.std.specs.Prelude.{◌≡◌, ℕ, ◌<◌, List, length, take, count_by, slice_index}
use Rattle.strip_mask.specs.Set.{minus, members}
use Rattle.strip_model.specs.Film.{FilmData}
use Rattle.strip_model.specs.Pay.{works}
use Rattle.strip_film.specs.Film.{all_scenes}
use Rattle.strip_film.specs.Shoot.{on_location}
use Rattle.strip_film.specs.Finish.{steps_cost}
use Rattle.strip_film.specs.Path.{PathData, IsPath}

pub record RunningData : Type 0 where
  pub path : PathData
  pub done : List ℕ
  pub left : List ℕ
  pub on : ℕ
  pub before : List ℕ

-- how many scenes of the set the actor works in
abbrev pub scenes_with : FilmData → ℕ → ℕ → ℕ
scenes_with film set actor = count_by (works film actor) (members set)

-- the path is one of the film, and the numbers are those that the film gives for it
pub record IsRunning (film : FilmData) (state : RunningData) : Type 0 where
  pub path : IsPath film state.path
  pub done : (actor : ℕ) → actor < length film.rates
      → slice_index state.done actor ≡ scenes_with film (minus (all_scenes film) state.path.rest) actor
  pub left : (actor : ℕ) → actor < length film.rates
      → slice_index state.left actor ≡ scenes_with film state.path.rest actor
  pub on : state.on ≡ on_location film state.path.rest
  pub before : (place : ℕ) → place < length state.path.scenes
      → slice_index state.before place ≡ steps_cost film (all_scenes film) (take place state.path.scenes)
