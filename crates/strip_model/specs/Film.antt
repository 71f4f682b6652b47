-- What is shot and what it costs, by number.
use Rattle.std.specs.Prelude.{ℕ, List}
use Rattle.strip_model.specs.declared.pair.Pair.{Pair}

-- who works in each scene, as a set of actors, and its days; what each actor gets for a day of work and for a day of
-- waiting; and which scenes come before which
pub record FilmData : Type 0 where
  pub casts : List ℕ
  pub days : List ℕ
  pub rates : List ℕ
  pub holds : List ℕ
  pub pairs : List Pair
