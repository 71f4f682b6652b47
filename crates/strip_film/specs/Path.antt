-- Paths: the scenes shot so far, what remains, and what was paid.
use Rattle.std.specs.Prelude.{◌≡◌, ℕ, ◌+◌, List, [], ◌∷◌, ◌++◌}
use Rattle.strip_mask.specs.Set.{without}
use Rattle.strip_model.specs.Film.{FilmData}
use Rattle.strip_film.specs.Film.{all_scenes}
use Rattle.strip_film.specs.Finish.{Remained, rest_after, steps_cost}
use Rattle.strip_film.specs.Shoot.{step_cost}

pub record PathData : Type 0 where
  pub scenes : List ℕ
  pub rest : ℕ
  pub paid : ℕ

-- a path of the film: each scene was ready when it was shot, what remains is what is left, and what was paid is the
-- sum of the steps
pub record IsPath (film : FilmData) (path : PathData) : Type 0 where
  pub remained : Remained film (all_scenes film) path.scenes
  pub left : path.rest ≡ rest_after (all_scenes film) path.scenes
  pub steps : path.paid ≡ steps_cost film (all_scenes film) path.scenes

-- the path with one scene more
abbrev pub extended : FilmData → PathData → ℕ → PathData
extended film path scene = record {
  scenes = path.scenes ++ scene ∷ [];
  rest = without path.rest scene;
  paid = path.paid + step_cost film path.rest scene;
}

-- nothing remains
abbrev pub IsComplete : FilmData → PathData → Type 0
IsComplete film path = IsPath film path × (path.rest ≡ 0)
