-- A film within the limits, and sets of its scenes.
use Rattle.std.specs.Prelude.{◌≡◌, ◌↔◌, ℕ, ◌<◌, ◌≤◌, true, List, length, slice_index, sum, All}
use Rattle.strip_mask.specs.Set.{LiesBelow, full, has}
use Rattle.strip_model.specs.declared.pair.Pair.{Pair}
use Rattle.strip_model.specs.Film.{FilmData}
use Rattle.strip_model.specs.Pairs.{FitPairs, Precedes}

-- the film of these lists
abbrev pub film_data : List ℕ → List ℕ → List ℕ → List ℕ → List Pair → FilmData
film_data casts days rates holds pairs = record { casts = casts; days = days; rates = rates; holds = holds; pairs = pairs }

-- a film of at most so many scenes, and of at most 64 actors, within the limits; casts are sets of actors
pub record IsFilmUpTo (most : ℕ) (film : FilmData) : Type 0 where
  pub scene_count : (0 < length film.casts) × (length film.casts ≤ most)
  pub day_count : length film.days ≡ length film.casts
  pub actor_count : length film.rates ≤ 64
  pub hold_count : length film.holds ≡ length film.rates
  pub some_days : All (λ days. 0 < days) film.days
  pub day_sum : sum film.days ≤ 19800
  pub rate_sum : sum film.rates ≤ 64000000000
  pub hold_sum : sum film.holds ≤ 64000000000
  pub casts : All (LiesBelow (length film.rates)) film.casts
  pub pairs : FitPairs (length film.casts) film.pairs

-- a film of at most 64 scenes, so that a set of them is a mask
abbrev pub IsFilm : FilmData → Type 0
IsFilm film = IsFilmUpTo 64 film

-- all scenes of the film
abbrev pub all_scenes : FilmData → ℕ
all_scenes film = full (length film.casts)

-- the set lies in the film
abbrev pub LiesIn : FilmData → ℕ → Type 0
LiesIn film set = LiesBelow (length film.casts) set

-- the table has for each scene the set of the scenes that a pair puts directly before it
pub record TellsBefore (pairs : List Pair) (table : List ℕ) : Type 0 where
  pub each : (scene first : ℕ) → (has (slice_index table scene) first ≡ true) ↔ Precedes pairs first scene
