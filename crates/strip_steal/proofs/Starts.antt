-- A new taker, and the pool that gave it weight.
use Rattle.std.proofs.Common.{◌≡◌, ℕ, suc, ◌<◌, ◌≤◌, false, ◌&&◌, All, List, [], ◌∷◌, length, map, refl, sym, ap, ◌∙◌, subst, arith, vec_capacity}
use Rattle.std.proofs.lemmas.List.{length-map}
use Rattle.std.proofs.lemmas.List.Elements.{All-map, All-weaker}
use Rattle.crossbeam_deque.specs.Handles.{worker_deque}
use Rattle.strip_steal.specs.declared.queues.Pool.{Pool}
use Rattle.strip_steal.specs.declared.share.Share.{Share}
use Rattle.strip_steal.specs.declared.taker.Taken.{Taken}
use Rattle.strip_steal.specs.declared.taker.Taker.{Taker}
use Rattle.strip_steal.specs.Rule.{AreInOrder, numbers_in, times}
use Rattle.strip_steal.specs.Seat.{queue_of}
use Rattle.strip_steal.specs.Steps.{lightened, split_off}
use Rattle.strip_steal.specs.Taker.{IsPool, IsShare, IsTaker, handed_in, have_ended, pool_queues, pool_shares, puts, taken_in, taker_queues, taker_shares}
use Rattle.strip_steal.proofs.Handed.{handed-same, taken-same}

map_stays : {B : Type 0} (f : Share → B) (change : Share → Share) → ((share : Share) → f (change share) ≡ f share) → (xs : List Share)
    → map f (map change xs) ≡ map f xs
map_stays f change stays [] = refl
map_stays f change stays (x ∷ xs) = λ i. stays x i ∷ map_stays f change stays xs i

pub puts-new : (xs : List Share) → puts (map split_off xs) ≡ puts xs
puts-new xs = map_stays (λ (s : Share). s.put) split_off (λ s. refl) xs

pub puts-lighter : (xs : List Share) → puts (map lightened xs) ≡ puts xs
puts-lighter xs = map_stays (λ (s : Share). s.put) lightened (λ s. refl) xs

pub taken-lighter : (xs : List Share) → taken_in (map lightened xs) ≡ taken_in xs
taken-lighter xs = taken-same xs (map lightened xs) (map_stays (λ (s : Share). s.taken) lightened (λ s. refl) xs)

pub ended-lighter : (xs : List Share) → have_ended (map lightened xs) ≡ have_ended xs
ended-lighter [] = refl
ended-lighter (x ∷ xs) = ap (λ b. x.ended && b) (ended-lighter xs)

pub taken-new : (xs : List Share) → taken_in (map split_off xs) ≡ []
taken-new [] = refl
taken-new (x ∷ xs) = taken-new xs

pub new_taker : (pool : Pool) (weight : ℕ) (taker : Taker) → IsPool weight pool → taker.place < length pool.owners.items → taker_queues taker ≡ pool_queues pool
    → taker_shares taker ≡ map split_off (pool_shares pool) → taker.taken.items ≡ [] → vec_capacity taker.taken ≡ pool.count → IsTaker taker
new_taker pool weight taker is place queues shares empty room =
    let xs : List Share = pool_shares pool in
    let handed : handed_in (taker_shares taker) ≡ handed_in xs = ap handed_in shares ∙ handed-same xs (map split_off xs) (puts-new xs) in
    let long : length taker.seats.items ≡ length pool.owners.items
    = sym (length-map taker.seats.items queue_of) ∙ (ap (λ l. length l) queues ∙ length-map pool.owners.items worker_deque) in
    record {
      shares = record {
        each = subst (All (IsShare 1)) (sym shares) (All-map (IsShare 1) split_off xs
            (All-weaker (IsShare weight) (λ (s : Share). IsShare 1 (split_off s)) (λ s one. record { weighs = refl; closed = one.closed; few = λ number. omega arith }) xs is.shares.each));
        once = λ number. subst (λ l. times number l ≤ 1) (sym handed) (is.shares.once number);
      };
      alone = subst (All (λ (s : Share). s.has_joined ≡ false)) (sym shares) (All-map (λ (s : Share). s.has_joined ≡ false) split_off xs
          (All-weaker (IsShare weight) (λ (s : Share). (split_off s).has_joined ≡ false) (λ s one. refl) xs is.shares.each));
      place = omega (arith, place, long);
      small = omega (arith, long, is.small);
      order = subst (All (λ (s : Share). AreInOrder s.taken (numbers_in s.put))) (sym shares) (All-map (λ (s : Share). AreInOrder s.taken (numbers_in s.put)) split_off xs
          (All-weaker (IsShare weight) (λ (s : Share). AreInOrder (split_off s).taken (numbers_in (split_off s).put)) (λ s one. tt) xs is.shares.each));
      room = omega (arith, ap (λ (l : List ℕ). length l) handed, room, is.count);
      given = λ number. ap (λ l. times number (map (λ (one : Taken). one.number) l)) empty ∙ sym (ap (times number) (ap taken_in shares ∙ taken-new xs));
    }

pub lighter_pool : (before after : Pool) (weight : ℕ) → IsPool (suc weight) before → after.count ≡ before.count → pool_queues after ≡ pool_queues before
    → pool_shares after ≡ map lightened (pool_shares before) → IsPool weight after
lighter_pool before after weight is count queues shares =
    let xs : List Share = pool_shares before in
    let handed : handed_in (pool_shares after) ≡ handed_in xs = ap handed_in shares ∙ handed-same xs (map lightened xs) (puts-lighter xs) in
    let long : length after.owners.items ≡ length before.owners.items
    = sym (length-map after.owners.items worker_deque) ∙ (ap (λ l. length l) queues ∙ length-map before.owners.items worker_deque) in
    record {
      shares = record {
        each = subst (All (IsShare weight)) (sym shares) (All-map (IsShare weight) lightened xs
            (All-weaker (IsShare (suc weight)) (λ (s : Share). IsShare weight (lightened s))
            (λ s one. record { weighs = omega (arith, one.weighs); closed = one.closed; few = one.few }) xs is.shares.each));
        once = λ number. subst (λ l. times number l ≤ 1) (sym handed) (is.shares.once number);
      };
      some_queue = omega (arith, long, is.some_queue);
      small = omega (arith, long, is.small);
      count = count ∙ (is.count ∙ sym (ap (λ (l : List ℕ). length l) handed));
    }
