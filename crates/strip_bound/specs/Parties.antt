-- What is known of the parties of a set.
use Rattle.std.specs.Prelude.{◌≡◌, ℕ, ◌<◌, ◌≤◌, ◌⊎◌, length, slice_index}
use Rattle.strip_mask.specs.Sums.{sum_below}
use Rattle.strip_model.specs.Film.{FilmData}
use Rattle.strip_bound.specs.declared.newcomers.Choices.{Choices}
use Rattle.strip_bound.specs.declared.parties.Parties.{Parties}
use Rattle.strip_bound.specs.Bounds.{greatest_below, newcomers_at, number_of_parties}

-- which newcomers each party was given: the first of them, and all, up to two
pub record AreChoices (film : FilmData) (set many : ℕ) (choices : Choices) : Type 0 where
  pub first : (place : ℕ) → place < number_of_parties film set many
      → slice_index choices.first place ≡ newcomers_at film set many 1 place
  pub both : (place : ℕ) → place < number_of_parties film set many
      → slice_index choices.both place ≡ newcomers_at film set many 2 place

-- the parties of so many actors each: no value is above the greatest of its party, and the extra is their sum
pub record AreParties (film : FilmData) (set count : ℕ) (parties : Parties) : Type 0 where
  pub many : parties.many ≡ count
  pub number : parties.number ≡ number_of_parties film set count
  pub few : parties.number ≤ 10
  pub long : length parties.values ≡ 10
  pub most : (place : ℕ) → slice_index parties.values place ≤ greatest_below film set count 3 place
  pub extra : parties.extra ≡ sum_below parties.number (slice_index parties.values)

-- either as much as is needed is known, or the greatest value of each party with fewer newcomers than it was asked with
abbrev pub AreAsked : FilmData → ℕ → ℕ → Parties → Type 0
AreAsked film set many parties = (parties.need ≤ parties.extra)
    ⊎ ((place : ℕ) → place < parties.number → slice_index parties.values place
    ≡ greatest_below film set many parties.asked place)
