-- Who works before and behind a place of an order, and what two neighbours cost by which of them is shot first.
use Rattle.std.specs.Prelude.{◌≡◌, ℕ, ◌+◌, ◌*◌, ◌<◌, List, [], ◌∷◌, length, take, drop, slice_index}
use Rattle.strip_mask.specs.Set.{union, meet, minus, sum_over}
use Rattle.strip_model.specs.Film.{FilmData}
use Rattle.strip_start.specs.declared.sides.Sides.{Sides}

-- who works in some scene of the list
abbrev pub cast_along : FilmData → List ℕ → ℕ
cast_along film [] = 0
cast_along film (scene ∷ scenes) = union (slice_index film.casts scene) (cast_along film scenes)

-- what the actors cost who wait through the scene, where they do
abbrev pub wait_cost : FilmData → ℕ → ℕ → ℕ
wait_cost film actors scene = slice_index film.days scene * sum_over film.holds
    (minus actors (slice_index film.casts scene))

-- what two scenes, shot one after the other, cost beyond what they cost in either order: through the first wait
-- those of the second who worked before and have no scene behind, and through the second those of the first who
-- didn't and have one
abbrev pub turn_cost : FilmData → ℕ → ℕ → ℕ → ℕ → ℕ
turn_cost film before behind first second =
    wait_cost film (meet (slice_index film.casts second) (minus before behind)) first
    + wait_cost film (meet (slice_index film.casts first) (minus behind before)) second

-- for each place of the order, who works before it and who works behind it
pub record AreSides (film : FilmData) (order : List ℕ) (sides : Sides) : Type 0 where
  pub before : (place : ℕ) → place < length order → slice_index sides.before place ≡ cast_along film (take place order)
  pub behind : (place : ℕ) → place < length order
      → slice_index sides.behind place ≡ cast_along film (drop (place + 1) order)
