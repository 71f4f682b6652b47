-- A film on the way to its classes.
use Rattle.std.specs.Prelude.{◌≡◌, ℕ, List, [], ◌∷◌, length, map, slice_index_or}
use Rattle.std.specs.List.{flat_map}
use Rattle.strip_mask.specs.Set.{numbers_below}
use Rattle.strip_model.specs.Film.{FilmData}
use Rattle.strip_film.specs.Film.{IsFilmUpTo}

-- what is left to shoot, for each of its scenes the scenes of the first film that were joined in it, in the order
-- in which they are shot, and what is paid in any order
pub record State : Type 0 where
  pub film : FilmData
  pub members : List (List ℕ)
  pub apart : ℕ

-- a state of a film within the limits of an instance, with members for each scene
pub record IsState (state : State) : Type 0 where
  pub film : IsFilmUpTo 200 state.film
  pub members : length state.members ≡ length state.film.casts

-- nothing is joined and nothing set apart
abbrev pub start : FilmData → State
start film = record { film = film; members = map (λ scene. scene ∷ []) (numbers_below (length film.casts)); apart = 0 }

-- the way back: each scene of the order as the scenes that were joined in it
abbrev pub way_back : List (List ℕ) → List ℕ → List ℕ
way_back members order = flat_map (λ scene. slice_index_or members scene []) order
