use Rattle.std.proofs.Common.{◌≡◌, ◌∙◌, ◌<◌, ◌++◌, ◌∷◌, [], ℕ, List, ap, append-nil, append_assoc, arith, length, map, refl, set, subst, sym, take}
use Rattle.std.proofs.lemmas.List.{length-map, map-set}
use mathlib.Core.Option.{some}
use lib.ListN.{get_elem?}
use Rattle.crossbeam_deque.specs.Handles.{worker_deque, worker_view}
use Rattle.crossbeam_deque.proofs.Lists.{at_index, at_map}
use Rattle.strip_steal.specs.declared.seat.Seat.{Seat}
use Rattle.strip_steal.specs.declared.share.Share.{Share}
use Rattle.strip_steal.specs.Seat.{share_of}
use Rattle.strip_steal.specs.Steps.{AreCounted, AreJoined, joined}
use Rattle.strip_steal.specs.Taker.{pool_queues, pool_shares}
use Rattle.strip_steal.proofs.Joins.{joined-start, joined-step}
use Rattle.strip_steal.proofs.Places.{at_of_all, map_same}
use Rattle.strip_steal.proofs.Pops.{owner_within, long_before, same_queue, seat_there, weighs_there}
use Rattle.strip_steal.proofs.queues.Pool.take_in.Goals as goal

pub loop-seat-init : goal.loop-seat-init
loop-seat-init c = (
  refl,
  refl,
  (take {A = Seat} 0 c.args.seats.items, append-nil c.args.seats.items),
  subst (λ n. AreJoined (pool_shares c.args.self.now) (map share_of c.args.seats.items) n (pool_shares c.args.self.now)) (length-map c.args.seats.items share_of)
      (joined-start (pool_shares c.args.self.now) (map share_of c.args.seats.items)),
)

pub join_at-requires-clause-same : goal.join_at-requires-clause-same
join_at-requires-clause-same c =
    let was = c.loop-seat.invariant in
    let n : ℕ = length c.pop.new.self.items in
    let size : c.len.result ≡ n = c.len.ensures ∙ c.pop.new.self.ok.0 in
    let there = seat_there c.args.seats.items c.loop-seat.seats.items c.pop.new.self.items was.2.0 c.in-Some.seat c.in-Some.ensures.items was.2.1 in
    let inner = owner_within c.args.self.now c.loop-seat.self c.args.seats.items (map share_of c.args.seats.items) (length c.loop-seat.seats.items) n c.in-Some.seat c.requires.same
    was.3 there in
    let here : get_elem? c.loop-seat.self.owners.items n ≡ some c.index_mut.result.now
    = subst (λ k. get_elem? c.loop-seat.self.owners.items k ≡ some c.index_mut.result.now) size
    (at_index c.loop-seat.self.owners.items c.len.result c.index_mut.result.now (omega (arith, inner, size)) c.index_mut.ensures.value) in
    let long = long_before c.loop-seat.seats.items c.pop.new.self.items c.in-Some.seat c.in-Some.ensures.items in
    same_queue c.args.seats.items c.loop-seat.self (pool_queues c.args.self.now) n c.in-Some.seat (worker_deque c.index_mut.result.now) c.requires.same was.1 there
    (at_map worker_deque c.loop-seat.self.owners.items n c.index_mut.result.now here)

pub join_at-requires-clause-weight : goal.join_at-requires-clause-weight
join_at-requires-clause-weight c =
    let was = c.loop-seat.invariant in
    let n : ℕ = length c.pop.new.self.items in
    let size : c.len.result ≡ n = c.len.ensures ∙ c.pop.new.self.ok.0 in
    let there = seat_there c.args.seats.items c.loop-seat.seats.items c.pop.new.self.items was.2.0 c.in-Some.seat c.in-Some.ensures.items was.2.1 in
    let inner = owner_within c.args.self.now c.loop-seat.self c.args.seats.items (map share_of c.args.seats.items) (length c.loop-seat.seats.items) n c.in-Some.seat c.requires.same
    was.3 there in
    let here : get_elem? c.loop-seat.self.owners.items n ≡ some c.index_mut.result.now
    = subst (λ k. get_elem? c.loop-seat.self.owners.items k ≡ some c.index_mut.result.now) size
    (at_index c.loop-seat.self.owners.items c.len.result c.index_mut.result.now (omega (arith, inner, size)) c.index_mut.ensures.value) in
    let long = long_before c.loop-seat.seats.items c.pop.new.self.items c.in-Some.seat c.in-Some.ensures.items in
    weighs_there (pool_shares c.args.self.now) (map share_of c.args.seats.items) (pool_shares c.loop-seat.self) (length c.loop-seat.seats.items) n
    (worker_view c.index_mut.result.now) was.3 (omega (arith, long)) (at_map worker_view c.loop-seat.self.owners.items n c.index_mut.result.now here) c.requires.weight

pub join_at-requires-clause-other : goal.join_at-requires-clause-other
join_at-requires-clause-other c =
    let was = c.loop-seat.invariant in
    let n : ℕ = length c.pop.new.self.items in
    let there = seat_there c.args.seats.items c.loop-seat.seats.items c.pop.new.self.items was.2.0 c.in-Some.seat c.in-Some.ensures.items was.2.1 in
    at_of_all (λ (s : Share). 0 < s.weight) (map share_of c.args.seats.items) c.requires.other n (share_of c.in-Some.seat)
    (at_map share_of c.args.seats.items n c.in-Some.seat there)

pub loop-seat-preserved : goal.loop-seat-preserved
loop-seat-preserved c =
    let was = c.loop-seat.invariant in
    let n : ℕ = length c.pop.new.self.items in
    let size : c.len.result ≡ n = c.len.ensures ∙ c.pop.new.self.ok.0 in
    let there = seat_there c.args.seats.items c.loop-seat.seats.items c.pop.new.self.items was.2.0 c.in-Some.seat c.in-Some.ensures.items was.2.1 in
    let inner = owner_within c.args.self.now c.loop-seat.self c.args.seats.items (map share_of c.args.seats.items) (length c.loop-seat.seats.items) n c.in-Some.seat c.requires.same
    was.3 there in
    let here : get_elem? c.loop-seat.self.owners.items n ≡ some c.index_mut.result.now
    = subst (λ k. get_elem? c.loop-seat.self.owners.items k ≡ some c.index_mut.result.now) size
    (at_index c.loop-seat.self.owners.items c.len.result c.index_mut.result.now (omega (arith, inner, size)) c.index_mut.ensures.value) in
    let long = long_before c.loop-seat.seats.items c.pop.new.self.items c.in-Some.seat c.in-Some.ensures.items in
    let v : Share = worker_view c.index_mut.result.now in
    let w : Share = share_of c.in-Some.seat in
    let now : List Share = pool_shares c.loop-seat.self in
    let place : c.len.result ≡ n = size in
    let next = joined-step (pool_shares c.args.self.now) (map share_of c.args.seats.items) now n v w
    (subst (λ k. AreJoined (pool_shares c.args.self.now) (map share_of c.args.seats.items) k now) long was.3)
    (at_map worker_view c.loop-seat.self.owners.items n c.index_mut.result.now here)
    (at_map share_of c.args.seats.items n c.in-Some.seat there)
    (subst AreCounted c.join_at.ensures.joined c.join_at.ensures.counted) in
    let shares : map worker_view (set c.loop-seat.self.owners.items c.len.result c.join_at.new.owner) ≡ set now n (joined v w)
    = map-set worker_view c.loop-seat.self.owners.items c.len.result c.join_at.new.owner ∙ (λ i. set now (place i) (c.join_at.ensures.joined i)) in (
      was.0,
      map_same worker_deque c.loop-seat.self.owners.items c.len.result c.index_mut.result.now c.join_at.new.owner
          (subst (λ k. get_elem? c.loop-seat.self.owners.items k ≡ some c.index_mut.result.now) (sym size) here) c.join_at.ensures.queue ∙ was.1,
      (
        c.in-Some.seat ∷ was.2.0,
        sym (append_assoc c.pop.new.self.items (c.in-Some.seat ∷ []) was.2.0)
            ∙ (ap (λ l. l ++ was.2.0) (sym c.in-Some.ensures.items) ∙ was.2.1),
      ),
      subst (AreJoined (pool_shares c.args.self.now) (map share_of c.args.seats.items) n) (sym shares) next,
    )
