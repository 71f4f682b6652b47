-- Where the workers of a crew have their parts from, and what becomes of it where passes are split and joined.
use Rattle.std.specs.Prelude.{◌≡◌, ⊤, ℕ, suc, ◌+◌, ◌<◌, ◌≤◌, Bool, true, ◌||◌, List, [], ◌++◌, length}
use Rattle.strip_least.specs.Rule.{times}
use Rattle.strip_steal.specs.Rule.{full_weight}
use Rattle.strip_steal.specs.Taker.{IsPool, handed_in, have_ended, pool_queues, pool_shares, puts, taken_in, taker_shares}
use Rattle.strip_crew.specs.declared.source.Source.{Source}
use Rattle.strip_crew.specs.declared.source.Source.TheVariants.{Counter, Gathers, Takes}
use Rattle.strip_crew.specs.Source.{IsSource, SourceHome, has_ended, source_home, taken_by}
use Rattle.strip_crew.specs.Source.SourceHome.{NoHome, OfCounter, OfGatherer, OfQueues}

-- which source those have who work beside one with this source
abbrev pub split_home : Source → SourceHome
split_home Counter = OfCounter
split_home (Gathers gatherer) = OfQueues (pool_queues gatherer.pool) (puts (pool_shares gatherer.pool))
split_home (Takes taker) = NoHome

-- there is a source for a worker at this desk
abbrev pub Deals : ℕ → SourceHome → Type 0
Deals desk OfCounter = ⊤
Deals desk (OfGatherer pool) = ⊥
Deals desk (OfQueues queues put) = desk < length queues
Deals desk NoHome = ⊥

-- the source is one of a worker, and not of the one who gathers
abbrev pub IsWorkers : Source → Type 0
IsWorkers Counter = ⊤
IsWorkers (Gathers gatherer) = ⊥
IsWorkers (Takes taker) = ⊤

-- the source weighs as much as the passes: a pool as much, and a taker 1
abbrev pub Bears : ℕ → Source → Type 0
Bears weight Counter = ⊤
Bears weight (Gathers gatherer) = IsPool weight gatherer.pool
Bears weight (Takes taker) = weight ≡ 1

-- no part is left: the counter told so, or all queues were found empty, so that a pool of full weight has gathered all
-- that was handed in
abbrev pub NoneLeft : Source → Bool → Type 0
NoneLeft Counter told = told ≡ true
NoneLeft (Gathers gatherer) told =
    IsPool full_weight gatherer.pool → (part : ℕ)
    → times part (taken_in (pool_shares gatherer.pool)) ≡ times part (handed_in (pool_shares gatherer.pool))
NoneLeft (Takes taker) told = have_ended (taker_shares taker) ≡ true

-- a source was split: what it is now, and the source of a further worker, which has given nothing yet
pub record Splits (before part after : Source) : Type 0 where
  pub given : (parts : ℕ) (claims : List ℕ) → IsSource before parts claims → IsSource after parts claims
  pub fresh : (parts : ℕ) (claims : List ℕ) → IsSource before parts claims → IsSource part parts []
  pub same : (number : ℕ) → times number (taken_by after) ≡ times number (taken_by before)
  pub unused : (number : ℕ) → times number (taken_by part) ≡ 0
  pub worker : IsWorkers part
  pub home : split_home after ≡ split_home before
  pub from : source_home part ≡ split_home before
  pub weight : (weight : ℕ) → Bears (suc weight) before → Bears weight after
  pub light : Bears 1 part
  pub ended : (told : Bool) → has_ended after told ≡ has_ended before told

-- another worker's source was joined: what both gave is given, no part twice where none was claimed twice
pub record JoinsSource (before other after : Source) : Type 0 where
  pub given : (parts : ℕ) (claims more : List ℕ) → IsSource before parts claims → IsSource other parts more
      → IsSource after parts (claims ++ more)
  pub taken : (number : ℕ) → times number (taken_by after) ≡ times number (taken_by before)
      + times number (taken_by other)
  pub once : (parts : ℕ) (claims more : List ℕ) → IsSource before parts claims → IsSource other parts more
      → ((number : ℕ) → times number (claims ++ more) ≤ 1) → (number : ℕ)
      → times number (claims ++ more) + times number (taken_by after) ≤ 1
  pub home : split_home after ≡ split_home before
  pub weight : (weight : ℕ) → Bears weight before → Bears (weight + 1) after
  pub left : (told other_told : Bool) → NoneLeft other other_told → NoneLeft after (told || other_told)
