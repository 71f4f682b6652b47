-- Where a worker has its parts from, and what it has had from there.
use Rattle.std.specs.Prelude.{◌≡◌, ⊤, ℕ, ◌+◌, ◌<◌, ◌≤◌, Bool, true, Option, Some, None, List, [], ◌∷◌}
use Rattle.strip_least.specs.declared.view.View.{View as LeastView}
use Rattle.strip_least.specs.Rule.{once_below, times}
use Rattle.strip_steal.specs.declared.queues.Pool.{Pool}
use Rattle.strip_steal.specs.declared.taker.Taker.{Taker}
use Rattle.strip_steal.specs.Seat.{QueueId}
use Rattle.strip_steal.specs.Taker.{IsPool, IsTaker, handed_in, have_ended, pool_shares, puts, taken_in, taker_queues, taker_shares}
use Rattle.strip_crew.specs.declared.source.Source.{Source}
use Rattle.strip_crew.specs.declared.source.Source.TheVariants.{Counter, Gathers, Takes}

-- the parts that a source gave or gathered, beside those that the counter gave
abbrev pub taken_by : Source → List ℕ
taken_by Counter = []
taken_by (Gathers gatherer) = taken_in (pool_shares gatherer.pool)
taken_by (Takes taker) = taken_in (taker_shares taker)

-- whether the worker was answered that there is no part, where the counter told it so or not
abbrev pub has_ended : Source → Bool → Bool
has_ended Counter told = told
has_ended (Gathers gatherer) told = gatherer.has_ended
has_ended (Takes taker) told = have_ended (taker_shares taker)

-- the numbers are the parts but the front, each once
abbrev pub AreTasks : ℕ → List ℕ → Type 0
AreTasks parts numbers = (part : ℕ) → times part numbers + once_below part 1 ≡ once_below part parts

-- no number was taken more often than it was handed in
abbrev pub AreFew : List ℕ → List ℕ → Type 0
AreFew handed taken = (part : ℕ) → times part taken ≤ times part handed

-- a pool into which the tasks were put, beside the counter, of which the front was claimed and no other part
pub record HasPool (pool : Pool) (parts : ℕ) (claims : List ℕ) : Type 0 where
  pub weighs : (weight : ℕ) × (0 < weight) × IsPool weight pool
  pub tasks : AreTasks parts (handed_in (pool_shares pool))
  pub few : AreFew (handed_in (pool_shares pool)) (taken_in (pool_shares pool))
  pub front : (part : ℕ) → times part claims ≡ once_below part 1

-- a taker of queues into which the tasks were put, which has claimed nothing of the counter
pub record HasTaker (taker : Taker) (parts : ℕ) (claims : List ℕ) : Type 0 where
  pub is_taker : IsTaker taker
  pub tasks : AreTasks parts (handed_in (taker_shares taker))
  pub few : AreFew (handed_in (taker_shares taker)) (taken_in (taker_shares taker))
  pub unclaimed : claims ≡ []

-- a source in a search of so many parts, of which these were claimed of the counter
abbrev pub IsSource : Source → ℕ → List ℕ → Type 0
IsSource Counter parts claims = ⊤
IsSource (Gathers gatherer) parts claims = HasPool gatherer.pool parts claims
IsSource (Takes taker) parts claims = HasTaker taker parts claims

-- which source it is, whatever it gave: the counter, a gatherer, the queues, or none
pub data SourceHome : Type 0 where
  OfCounter : SourceHome
  OfGatherer : Pool → SourceHome
  OfQueues : List QueueId → List (List (Option ℕ)) → SourceHome
  NoHome : SourceHome

abbrev pub no_home : SourceHome
no_home = NoHome

abbrev pub source_home : Source → SourceHome
source_home Counter = OfCounter
source_home (Gathers gatherer) = OfGatherer gatherer.pool
source_home (Takes taker) = OfQueues (taker_queues taker) (puts (taker_shares taker))

-- a taker was given a part that was handed in, and that it hadn't
pub record GivesPart (before : Taker) (part : ℕ) (after : Taker) : Type 0 where
  pub handed : times part (handed_in (taker_shares before)) ≡ 1
  pub fresh : times part (taken_in (taker_shares before)) ≡ 0
  pub took : (number : ℕ) → times number (taken_in (taker_shares after))
      ≡ times number (taken_in (taker_shares before)) + times number (part ∷ [])

-- a taker found all queues empty
pub record FindsNone (before after : Taker) : Type 0 where
  pub ended : have_ended (taker_shares after) ≡ true
  pub same : (number : ℕ) → times number (taken_in (taker_shares after)) ≡ times number (taken_in (taker_shares before))

-- a worker with this source was given a part, which it hadn't: the source and what is known of the counter, before
-- and after
pub record DrawsPart (before : Source) (told : LeastView) (part : ℕ) (after : Source) (drawn : LeastView) : Type 0 where
  pub only : drawn ≡ record told { claims = drawn.claims }
  pub below : part < told.parts
  pub fresh : times part told.claims + times part (taken_by before) ≡ 0
  pub more : (other : ℕ) → times other drawn.claims + times other (taken_by after) ≡ times other told.claims
      + times other (taken_by before) + times other (part ∷ [])
  pub source : IsSource after told.parts drawn.claims
  pub home : source_home after ≡ source_home before

-- it was answered that there is none
pub record DrawsNone (before : Source) (told : LeastView) (after : Source) (drawn : LeastView) : Type 0 where
  pub only : drawn ≡ record told { ended = drawn.ended }
  pub same : (other : ℕ) → times other (taken_by after) ≡ times other (taken_by before)
  pub ended : has_ended after drawn.ended ≡ true
  pub source : IsSource after told.parts told.claims
  pub home : source_home after ≡ source_home before

abbrev pub Draws : Source → LeastView → Option ℕ → Source → LeastView → Type 0
Draws before told None after drawn = DrawsNone before told after drawn
Draws before told (Some part) after drawn = DrawsPart before told part after drawn
