-- How sets that are asked for their static bounds are answered.
use Rattle.std.specs.Prelude.{◌≡◌, ℕ, ◌<◌, ◌≤◌, ◌⊎◌, min, true, false, List, length, slice_index_or}
use Rattle.strip_model.specs.declared.kind.Kind.{Kind}
use Rattle.strip_model.specs.Film.{FilmData}
use Rattle.strip_bound.specs.Bounds.{bound}
use Rattle.strip_layers.specs.declared.ask.Ask.{Ask}

-- the value is at most the static bound of the set, and at least what is needed or that bound
pub record Suffices (kind : Kind) (film : FilmData) (set need value : ℕ) : Type 0 where
  pub most : value ≤ bound kind film set
  pub reaches : (need ≤ value) ⊎ (value ≡ bound kind film set)

-- the answer to an ask: a value that is known stays, and any other suffices
pub record IsAnswer (kind : Kind) (film : FilmData) (before after : Ask) : Type 0 where
  pub set : after.set ≡ before.set
  pub need : after.need ≡ before.need
  pub is_known : after.is_known ≡ before.is_known
  pub known : before.is_known ≡ true → after.value ≡ before.value
  pub asked : before.is_known ≡ false → Suffices kind film before.set before.need after.value

-- each ask of a list is answered, at its place
pub record AreAnswered (kind : Kind) (film : FilmData) (before after : List Ask) : Type 0 where
  pub count : length after ≡ length before
  pub each : (place : ℕ) (d : Ask) → place < length before
      → IsAnswer kind film (slice_index_or before place d) (slice_index_or after place d)

-- what a layer takes of an answer: no more than was needed
abbrev pub taken : Ask → ℕ
taken ask = min ask.need ask.value
