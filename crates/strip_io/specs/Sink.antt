-- A sink at a moment, and what it has taken.
use Rattle.std.specs.Prelude.{◌≡◌, ℕ, ◌<◌, List, ◌++◌, length, take, Option}
use Rattle.std.specs.Option.{option_map}

-- the sink at a moment
pub record SinkData : Type 0 where
  -- the bytes taken so far, where they are told
  pub taken : Option (List ℕ)
  -- how often writes have failed, at most 2^64 - 1
  pub faults : ℕ

abbrev pub sink_data : Option (List ℕ) → ℕ → SinkData
sink_data taken faults = record { taken = taken; faults = faults }

-- the sink took exactly this text, where it tells what it takes
abbrev pub Took : Option (List ℕ) → Option (List ℕ) → List ℕ → Type 0
Took before after text = after ≡ option_map (λ taken. taken ++ text) before

-- the sink took a part of the text from its front, and not all of it
abbrev pub TookFront : Option (List ℕ) → Option (List ℕ) → List ℕ → Type 0
TookFront before after text = (n : ℕ) × (n < length text) × Took before after (take n text)
