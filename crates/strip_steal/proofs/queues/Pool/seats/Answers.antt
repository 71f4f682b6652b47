use Rattle.std.proofs.Common.{◌≡◌, ◌∙◌, ◌<◌, ◌≤◌, ◌++◌, ◌∷◌, [], ℕ, ap, arith, length, map, set, sym}
use Rattle.std.proofs.lemmas.List.{length-map, map-append, map-id, map-set}
use mathlib.Core.Option.{some}
use lib.ListN.{get_elem?}
use Rattle.crossbeam_deque.specs.Handles.{worker_deque, worker_view}
use Rattle.crossbeam_deque.proofs.Lists.{at_index, at_map}
use Rattle.strip_steal.specs.declared.seat.Seat.{Seat}
use Rattle.strip_steal.specs.declared.share.Share.{Share}
use Rattle.strip_steal.specs.Seat.{QueueId, queue_of, share_of}
use Rattle.strip_steal.specs.Steps.{lightened, split_off}
use Rattle.strip_steal.specs.Taker.{pool_queues, pool_shares}
use Rattle.strip_steal.proofs.Fronts.{changed, changed-all, changed-here, changed-step, made, made-all, made-step}
use Rattle.strip_steal.proofs.Places.{at_of_all, map_same}
use Rattle.strip_steal.proofs.Pops.{place_within}
use Rattle.strip_steal.proofs.queues.Pool.seats.Goals as goal

pub seat_at-requires : goal.seat_at-requires
seat_at-requires c =
    let was = c.loop-place.invariant in
    let p : ℕ = c.loop-place.place in
    let inner : p < length c.loop-place.self.owners.items = place_within c.args.self.now c.loop-place.self p was.1
    (omega (arith, c.loop-place-test.true, c.len-count.ensures, c.args.self.now.owners.ok.0)) in
    let here : get_elem? c.loop-place.self.owners.items p ≡ some c.index_mut.result.now
    = at_index c.loop-place.self.owners.items p c.index_mut.result.now inner c.index_mut.ensures.value in
    let v : Share = worker_view c.index_mut.result.now in
    let share : get_elem? (pool_shares c.args.self.now) p ≡ some v
    = sym (changed-here lightened p (pool_shares c.args.self.now)) ∙ (ap (λ l. get_elem? l p) (sym was.2)
    ∙ at_map worker_view c.loop-place.self.owners.items p c.index_mut.result.now here) in
    record { weight = at_of_all (λ (s : Share). 2 ≤ s.weight) (pool_shares c.args.self.now) c.requires.weight p v share }

pub returns-in_err-seat-clause-queues : goal.returns-in_err-seat-clause-queues
returns-in_err-seat-clause-queues c =
    let was = c.loop-place.invariant in
    let p : ℕ = c.loop-place.place in
    let inner : p < length c.loop-place.self.owners.items = place_within c.args.self.now c.loop-place.self p was.1
    (omega (arith, c.loop-place-test.true, c.len-count.ensures, c.args.self.now.owners.ok.0)) in
    let here : get_elem? c.loop-place.self.owners.items p ≡ some c.index_mut.result.now
    = at_index c.loop-place.self.owners.items p c.index_mut.result.now inner c.index_mut.ensures.value in
    map_same worker_deque c.loop-place.self.owners.items p c.index_mut.result.now c.seat_at.new.owner here c.seat_at.ensures.queue ∙ was.1

pub returns-in_err-push-clause-queues : goal.returns-in_err-push-clause-queues
returns-in_err-push-clause-queues c =
    let was = c.loop-place.invariant in
    let p : ℕ = c.loop-place.place in
    let inner : p < length c.loop-place.self.owners.items = place_within c.args.self.now c.loop-place.self p was.1
    (omega (arith, c.loop-place-test.true, c.len-count.ensures, c.args.self.now.owners.ok.0)) in
    let here : get_elem? c.loop-place.self.owners.items p ≡ some c.index_mut.result.now
    = at_index c.loop-place.self.owners.items p c.index_mut.result.now inner c.index_mut.ensures.value in
    map_same worker_deque c.loop-place.self.owners.items p c.index_mut.result.now c.seat_at.new.owner here c.seat_at.ensures.queue ∙ was.1

pub loop-place-preserved : goal.loop-place-preserved
loop-place-preserved c =
    let was = c.loop-place.invariant in
    let p : ℕ = c.loop-place.place in
    let inner : p < length c.loop-place.self.owners.items = place_within c.args.self.now c.loop-place.self p was.1
    (omega (arith, c.loop-place-test.true, c.len-count.ensures, c.args.self.now.owners.ok.0)) in
    let here : get_elem? c.loop-place.self.owners.items p ≡ some c.index_mut.result.now
    = at_index c.loop-place.self.owners.items p c.index_mut.result.now inner c.index_mut.ensures.value in
    let v : Share = worker_view c.index_mut.result.now in
    let share : get_elem? (pool_shares c.args.self.now) p ≡ some v
    = sym (changed-here lightened p (pool_shares c.args.self.now)) ∙ (ap (λ l. get_elem? l p) (sym was.2)
    ∙ at_map worker_view c.loop-place.self.owners.items p c.index_mut.result.now here) in
    let queue : get_elem? (pool_queues c.args.self.now) p ≡ some (worker_deque c.index_mut.result.now)
    = ap (λ l. get_elem? l p) (sym was.1) ∙ at_map worker_deque c.loop-place.self.owners.items p c.index_mut.result.now here in
    let seat : Seat = c.in_ok-seat.seat in (
      was.0,
      map_same worker_deque c.loop-place.self.owners.items p c.index_mut.result.now c.seat_at.new.owner here c.seat_at.ensures.queue ∙ was.1,
      map-set worker_view c.loop-place.self.owners.items p c.seat_at.new.owner ∙ ((λ i. set (was.2 i) p (c.in_ok-seat.ensures.lighter i))
          ∙ changed-step lightened p (pool_shares c.args.self.now) v share),
      ap (map queue_of) c.in_ok-push.ensures.items ∙ (map-append queue_of c.loop-place.seats.items (seat ∷ [])
          ∙ ((λ i. was.3 i ++ c.in_ok-seat.ensures.seat i ∷ []) ∙ made-step (λ (q : QueueId). q) p (pool_queues c.args.self.now) (worker_deque c.index_mut.result.now) queue)),
      ap (map share_of) c.in_ok-push.ensures.items ∙ (map-append share_of c.loop-place.seats.items (seat ∷ [])
          ∙ ((λ i. was.4 i ++ c.in_ok-seat.ensures.share i ∷ []) ∙ made-step split_off p (pool_shares c.args.self.now) v share)),
    )

pub returns-clause-lighter : goal.returns-clause-lighter
returns-clause-lighter c =
    let was = c.loop-place.invariant in
    let all : c.loop-place.place ≡ length (pool_shares c.args.self.now)
    = omega (arith, c.loop-place-test.false, c.loop-place.auto.place-end, c.len-count.ensures, c.args.self.now.owners.ok.0, length-map c.args.self.now.owners.items worker_view) in
    was.2 ∙ (ap (λ n. changed lightened n (pool_shares c.args.self.now)) all ∙ changed-all lightened (pool_shares c.args.self.now))

pub returns-clause-seats : goal.returns-clause-seats
returns-clause-seats c =
    let was = c.loop-place.invariant in
    let all : c.loop-place.place ≡ length (pool_queues c.args.self.now)
    = omega (arith, c.loop-place-test.false, c.loop-place.auto.place-end, c.len-count.ensures, c.args.self.now.owners.ok.0, length-map c.args.self.now.owners.items worker_deque) in
    was.3 ∙ (ap (λ n. made (λ (q : QueueId). q) n (pool_queues c.args.self.now)) all ∙ (made-all (λ (q : QueueId). q) (pool_queues c.args.self.now)
    ∙ map-id (pool_queues c.args.self.now)))

pub returns-clause-shares : goal.returns-clause-shares
returns-clause-shares c =
    let was = c.loop-place.invariant in
    let all : c.loop-place.place ≡ length (pool_shares c.args.self.now)
    = omega (arith, c.loop-place-test.false, c.loop-place.auto.place-end, c.len-count.ensures, c.args.self.now.owners.ok.0, length-map c.args.self.now.owners.items worker_view) in
    was.4 ∙ (ap (λ n. made split_off n (pool_shares c.args.self.now)) all ∙ made-all split_off (pool_shares c.args.self.now))
