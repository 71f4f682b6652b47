-- The words of the generator, one after the other.
use Rattle.std.specs.Prelude.{ℕ, zero, suc}
use Rattle.rand_pcg.specs.Lcg.{Lcg, increment_of, started}
use Rattle.rand_pcg.specs.Pcg.{multiplier_64, pcg32}

-- the generator of a number; its stream is always the same
abbrev pub generator_of : ℕ → Lcg
generator_of number = started 64 multiplier_64 number (increment_of 64 54)

-- the generator behind so many words
unfoldable pub behind : Lcg → ℕ → Lcg
behind generator zero = generator
behind generator (suc n) = (pcg32 (behind generator n)).1

-- its word at this place, counted from 0
abbrev pub word_at : Lcg → ℕ → ℕ
word_at generator place = (pcg32 (behind generator place)).0
