-- The queues of a pool and of its takers, and what is known of them.
use Rattle.std.specs.Prelude.{◌≡◌, ◌≢◌, ℕ, ◌<◌, ◌≤◌, ◌+◌, ◌-◌, zero, suc, Bool, true, false, List, [], ◌∷◌, ◌++◌, length, map, All, Option, Some, None, replicate, vec_capacity}
use Rattle.std.specs.List.{list_all}
use mathlib.Core.Option.{some}
use lib.ListN.{get_elem?}
use Rattle.crossbeam_deque.specs.Handles.{worker_deque, worker_view}
use Rattle.strip_steal.specs.declared.queues.Pool.{Pool}
use Rattle.strip_steal.specs.declared.taker.Taken.{Taken}
use Rattle.strip_steal.specs.declared.taker.Taker.{Taker}
use Rattle.strip_steal.specs.declared.share.Share.{Share}
use Rattle.strip_steal.specs.Rule.{AreInOrder, first_share, full_weight, numbers_in, times}
use Rattle.strip_steal.specs.Seat.{QueueId, queue_of, share_of}
use Rattle.strip_steal.specs.Steps.{IsClosed, with_taken}

abbrev pub taker_queues : Taker → List QueueId
taker_queues taker = map queue_of taker.seats.items

abbrev pub taker_shares : Taker → List Share
taker_shares taker = map share_of taker.seats.items

abbrev pub pool_queues : Pool → List QueueId
pool_queues pool = map worker_deque pool.owners.items

abbrev pub pool_shares : Pool → List Share
pool_shares pool = map worker_view pool.owners.items

-- what was put into each queue
abbrev pub puts : List Share → List (List (Option ℕ))
puts shares = map (λ share. share.put) shares

-- the numbers that were put into any queue
abbrev pub handed_in : List Share → List ℕ
handed_in [] = []
handed_in (share ∷ shares) = numbers_in share.put ++ handed_in shares

-- the numbers that were taken from any queue
abbrev pub taken_in : List Share → List ℕ
taken_in [] = []
taken_in (share ∷ shares) = share.taken ++ taken_in shares

-- an end of each queue was taken
abbrev pub have_ended : List Share → Bool
have_ended shares = list_all (λ share. share.ended) shares

-- a share of this weight of a queue into which nothing is put any more
pub record IsShare (weight : ℕ) (share : Share) : Type 0 where
  pub weighs : share.weight ≡ weight
  pub closed : IsClosed share.put
  pub few : (number : ℕ) → times number share.taken ≤ times number (numbers_in share.put)

-- shares of queues into which no number was put twice
pub record AreShares (weight : ℕ) (shares : List Share) : Type 0 where
  pub each : All (IsShare weight) shares
  pub once : (number : ℕ) → times number (handed_in shares) ≤ 1

-- a taker: what it was given are the numbers that were taken with its passes, from each queue in the order of putting
pub record IsTaker (taker : Taker) : Type 0 where
  pub shares : AreShares 1 (taker_shares taker)
  pub alone : All (λ share. share.has_joined ≡ false) (taker_shares taker)
  pub place : taker.place < length taker.seats.items
  pub small : length taker.seats.items ≤ 64
  pub order : All (λ share. AreInOrder share.taken (numbers_in share.put)) (taker_shares taker)
  pub room : length (handed_in (taker_shares taker)) ≤ vec_capacity taker.taken
  pub given : (number : ℕ) → times number (map (λ (one : Taken). one.number) taker.taken.items)
      ≡ times number (taken_in (taker_shares taker))

-- a pool, each of whose owners weighs so much
pub record IsPool (weight : ℕ) (pool : Pool) : Type 0 where
  pub shares : AreShares weight (pool_shares pool)
  pub some_queue : 0 < length pool.owners.items
  pub small : length pool.owners.items ≤ 64
  pub count : pool.count ≡ length (handed_in (pool_shares pool))

-- a pass stays at its queue, with the same entries put: shares before and after
pub record StayAt (before_queues after_queues : List QueueId) (shares after : List Share) : Type 0 where
  pub queues : after_queues ≡ before_queues
  pub puts : puts after ≡ puts shares

-- every count-th of the numbers, the first of them behind so many
abbrev pub every : ℕ → ℕ → List ℕ → List ℕ
every count skipped [] = []
every count zero (number ∷ numbers) = number ∷ every count (count - 1) numbers
every count (suc skipped) (number ∷ numbers) = every count skipped numbers

-- the numbers that are put into the queue at this place, as its entries
abbrev pub entries_in : ℕ → List ℕ → ℕ → List (Option ℕ)
entries_in count numbers place = map (λ (number : ℕ). Some number) (every count place numbers)

-- what is put into the queue at this place: its numbers, and an end for each taker
abbrev pub entries_of : ℕ → List ℕ → ℕ → List (Option ℕ)
entries_of count numbers place = entries_in count numbers place ++ replicate count None

-- the owner's share of the queue at this place, when it was filled
abbrev pub dealt : ℕ → List ℕ → ℕ → Share
dealt count numbers place = record first_share { put = entries_of count numbers place }

-- the queues were filled with the numbers in turn, and nothing was taken
pub record AreDealt (count : ℕ) (numbers : List ℕ) (shares : List Share) : Type 0 where
  pub long : length shares ≡ count
  pub filled : (place : ℕ) (share : Share) → get_elem? shares place ≡ some share → share ≡ record first_share { put = entries_of count numbers place }

-- a taker was given a number: one that was handed in and that it hadn't; it is of its own queue, unless that was
-- found empty
pub record GivesNumber (before : Taker) (one : Taken) (after : Taker) : Type 0 where
  pub listed : after.taken.items ≡ before.taken.items ++ one ∷ []
  pub handed : times one.number (handed_in (taker_shares before)) ≡ 1
  pub fresh : times one.number (taken_in (taker_shares before)) ≡ 0
  pub took : (number : ℕ) → times number (taken_in (taker_shares after))
      ≡ times number (taken_in (taker_shares before)) + times number (one.number ∷ [])
  pub within : one.from < length (taker_shares before)
  pub came_from : (share : Share) → get_elem? (taker_shares before) one.from ≡ some share
      → get_elem? (taker_shares after) one.from ≡ some (with_taken share (Some one.number))
  pub own_first : one.from ≢ before.place → (share : Share) → get_elem? (taker_shares after) before.place ≡ some share
      → share.ended ≡ true

-- a taker was gathered into a pool: what was taken with it was taken with the pool, no number more often than it
-- was handed in; and where that is the last of them, and some taker found all queues empty, each number as often as
-- it was handed in
pub record HasGathered (before : Pool) (taker : Taker) (after : Pool) : Type 0 where
  pub weight : (weight : ℕ) → IsPool weight before → IsPool (weight + 1) after
  pub stays : StayAt (pool_queues before) (pool_queues after) (pool_shares before) (pool_shares after)
  pub took : (number : ℕ) → times number (taken_in (pool_shares after)) ≡ times number (taken_in (pool_shares before))
      + times number (taken_in (taker_shares taker))
  pub few : (number : ℕ) → times number (taken_in (pool_shares after)) ≤ times number (handed_in (pool_shares after))
  pub ended : have_ended (taker_shares taker) ≡ true → have_ended (pool_shares after) ≡ true
  pub each : IsPool full_weight after → have_ended (pool_shares after) ≡ true
      → (number : ℕ) → times number (taken_in (pool_shares after)) ≡ times number (handed_in (pool_shares after))
