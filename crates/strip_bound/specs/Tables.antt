-- What the static bounds of a film go by.
use Rattle.std.specs.Prelude.{◌≡◌, ℕ, ◌*◌, List, length, slice_index}
use Rattle.strip_mask.specs.Set.{IsSet, has, numbers_below, sum_over}
use Rattle.strip_model.specs.Film.{FilmData}
use Rattle.strip_model.specs.Pay.{works}
use Rattle.strip_bound.specs.declared.tables.BoundTables.{BoundTables}
use Rattle.strip_bound.specs.Bounds.{group_data}
use Rattle.strip_bound.specs.Falling.{by_falling}

-- a scene's days at the rates of its cast
abbrev pub weight : FilmData → ℕ → ℕ
weight film scene = slice_index film.days scene * sum_over film.rates (slice_index film.casts scene)

-- each scene's days at the rates of its cast
pub record AreWeights (film : FilmData) (weights : List ℕ) : Type 0 where
  pub count : length weights ≡ length film.casts
  pub each : (scene : ℕ) → slice_index weights scene ≡ weight film scene

-- for each actor the set of the scenes with him
pub record ArePlays (film : FilmData) (plays : List ℕ) : Type 0 where
  pub count : length plays ≡ length film.rates
  pub sets : (actor : ℕ) → IsSet (slice_index plays actor)
  pub each : (actor scene : ℕ) → has (slice_index plays actor) scene ≡ works film actor scene

-- the tables of the film
pub record AreTables (film : FilmData) (tables : BoundTables) : Type 0 where
  pub weights : AreWeights film tables.weights.items
  pub plays : ArePlays film tables.plays.items
  pub groups : tables.groups ≡ group_data film
  pub arrivals : tables.arrivals ≡ group_data film
  pub by_hold : tables.by_hold.items ≡ by_falling (slice_index film.holds) (numbers_below (length film.holds))
