-- The last seat of a taker, and the owner of its queue.
use Rattle.std.proofs.Common.{◌≡◌, ℕ, ◌+◌, ◌<◌, All, List, [], ◌∷◌, ◌++◌, length, map, refl, sym, ap, ◌∙◌, subst, length-append, arith}
use Rattle.std.proofs.lemmas.List.{length-map}
use mathlib.Core.Option.{some, some-injective}
use lib.ListN.{get_elem?}
use Rattle.crossbeam_deque.specs.Handles.{worker_deque, worker_view}
use Rattle.crossbeam_deque.proofs.Lists.{at_last, at_longer, at_map}
use Rattle.strip_steal.specs.declared.queues.Pool.{Pool}
use Rattle.strip_steal.specs.declared.seat.Seat.{Seat}
use Rattle.strip_steal.specs.declared.share.Share.{Share}
use Rattle.strip_steal.specs.Seat.{QueueId, queue_of}
use Rattle.strip_steal.specs.Steps.{AreJoined}
use Rattle.strip_steal.specs.Taker.{pool_queues, pool_shares}
use Rattle.strip_steal.proofs.Places.{at_of_all, some_at, within}

pub seat_there : (all before last rest : List Seat) (seat : Seat) → before ≡ last ++ seat ∷ [] → before ++ rest ≡ all → get_elem? all (length last) ≡ some seat
seat_there all before last rest seat popped whole =
    subst (λ l. get_elem? l (length last) ≡ some seat) whole
    (at_longer before rest (length last) seat (subst (λ l. get_elem? l (length last) ≡ some seat) (sym popped) (at_last last seat (length last) refl)))

pub long_before : (before last : List Seat) (seat : Seat) → before ≡ last ++ seat ∷ [] → length before ≡ length last + 1
long_before before last seat popped = ap (λ l. length l) popped ∙ length-append last (seat ∷ [])

pub same_queue : (all : List Seat) (pool : Pool) (queues : List QueueId) (n : ℕ) (seat : Seat) (queue : QueueId) → map queue_of all ≡ queues → pool_queues pool ≡ queues
    → get_elem? all n ≡ some seat → get_elem? (pool_queues pool) n ≡ some queue → queue_of seat ≡ queue
same_queue all pool queues n seat queue first second at there =
    some-injective (queue_of seat) queue
    (sym (at_map queue_of all n seat at) ∙ (ap (λ l. get_elem? l n) (first ∙ sym second) ∙ there))

-- a share that didn't take in another yet is as it was
pub early_share : (before others now : List Share) (place n : ℕ) (v : Share) → AreJoined before others place now → n < place → get_elem? now n ≡ some v
    → get_elem? before n ≡ some v
early_share before others now place n v was below here =
    let inner = within now n v here in
    let first = some_at before n (omega (arith, inner, was.long)) in
    first.1 ∙ (sym (was.early n first.0 first.1 below) ∙ here)

pub weighs_there : (before others now : List Share) (place n : ℕ) (v : Share) → AreJoined before others place now → n < place → get_elem? now n ≡ some v
    → All (λ share. 0 < share.weight) before → 0 < v.weight
weighs_there before others now place n v was below here all = at_of_all (λ (s : Share). 0 < s.weight) before all n v (early_share before others now place n v was below here)

pub owner_within : (before now : Pool) (all : List Seat) (others : List Share) (place n : ℕ) (seat : Seat) → map queue_of all ≡ pool_queues before
    → AreJoined (pool_shares before) others place (pool_shares now) → get_elem? all n ≡ some seat → n < length now.owners.items
owner_within before now all others place n seat same was at =
    omega (
      arith,
      within all n seat at,
      length-map all queue_of,
      ap (λ l. length l) same,
      length-map before.owners.items worker_deque,
      length-map before.owners.items worker_view,
      was.long,
      length-map now.owners.items worker_view,
    )

-- a place of the pool, whose queues are those that they were
pub place_within : (before now : Pool) (n : ℕ) → pool_queues now ≡ pool_queues before → n < length before.owners.items → n < length now.owners.items
place_within before now n same below =
    omega (arith, below, ap (λ l. length l) same, length-map before.owners.items worker_deque, length-map now.owners.items worker_deque)
