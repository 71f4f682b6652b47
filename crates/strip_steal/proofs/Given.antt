-- What a taker is after it asked the queues: given a number, or none.
use Rattle.std.proofs.Common.{◌≡◌, ◌≢◌, ◌⊎◌, ℕ, ◌+◌, ◌<◌, ◌≤◌, false, true≢false, All, List, [], ◌∷◌, ◌++◌, Some, None, length, map, set, inl, inr, sym, ap, ◌∙◌, subst, length-append, length-set, arith, vec_capacity}
use Rattle.std.proofs.lemmas.List.{length-map, map-append}
use Rattle.std.proofs.lemmas.List.Elements.{All-set}
use mathlib.Core.Option.{some, some-injective}
use lib.ListN.{get_elem?}
use Rattle.crossbeam_deque.proofs.Lists.{set_else}
use Rattle.strip_steal.specs.declared.share.Share.{Share}
use Rattle.strip_steal.specs.declared.taker.Taken.{Taken}
use Rattle.strip_steal.specs.declared.taker.Taker.{Taker}
use Rattle.strip_steal.specs.Rule.{AreInOrder, numbers_in, times}
use Rattle.strip_steal.specs.Seat.{share_of}
use Rattle.strip_steal.specs.Steps.{IsAsked, with_taken}
use Rattle.strip_steal.specs.Taker.{AreShares, GivesNumber, IsTaker, StayAt, handed_in, puts, taken_in, taker_queues, taker_shares}
use Rattle.strip_steal.proofs.Handed.{few-in, fresh-given, handed-same, puts-asked, shares-given, taken-given}
use Rattle.strip_steal.proofs.Numbers.{no_longer, times-append}
use Rattle.strip_steal.proofs.Places.{at_of_all}
use Rattle.strip_steal.proofs.Shares.{put_here}
use Rattle.strip_steal.proofs.Turns.{HasTurned, later-all, puts-turned, shares-turned, taken-turned}

long_shares : (taker : Taker) → length (taker_shares taker) ≡ length taker.seats.items
long_shares taker = length-map taker.seats.items share_of

-- ---- the taker was given nothing so far

pub kept : (before now : Taker) (turn : ℕ) → IsTaker before → now.place ≡ before.place → now.taken ≡ before.taken
    → HasTurned (taker_shares before) before.place turn (taker_shares now) → IsTaker now
kept before now turn is place taken was =
    let xs : List Share = taker_shares before in
    let ys : List Share = taker_shares now in
    let handed : handed_in ys ≡ handed_in xs = handed-same xs ys (puts-turned xs before.place turn ys was) in
    let long : length now.seats.items ≡ length before.seats.items = sym (long_shares now) ∙ (was.long ∙ long_shares before) in record {
      shares = shares-turned xs before.place turn ys was is.shares;
      alone = later-all (λ s. s.has_joined ≡ false) (λ s one. one) xs ys was.long was.each is.alone;
      place = omega (arith, place, long, is.place);
      small = omega (arith, long, is.small);
      order = later-all (λ s. AreInOrder s.taken (numbers_in s.put)) (λ s one. one) xs ys was.long was.each is.order;
      room = omega (arith, ap (λ (l : List ℕ). length l) handed, ap vec_capacity taken, is.room);
      given = λ number. ap (λ v. times number (map (λ (one : Taken). one.number) v.items)) taken ∙ (is.given number
          ∙ sym (ap (times number) (taken-turned xs before.place turn ys was)));
    }

-- ---- the taker is given a number

few_given : (now : Taker) (from n : ℕ) (after : List Share) → IsTaker now → IsAsked (taker_shares now) from (Some n) after → (number : ℕ)
    → times number (map (λ (one : Taken). one.number) now.taken.items ++ n ∷ []) ≤ times number (handed_in (taker_shares now))
few_given now from n after is asked number =
    let xs : List Share = taker_shares now in
    let ys : List Share = set xs from (with_taken asked.share (Some n)) in
    let few = few-in 1 ys (shares-given xs from n asked.share asked.here asked.given.1 is.shares) number in
    let more = taken-given xs from n asked.share asked.here number in
    let same : times number (handed_in ys) ≡ times number (handed_in xs)
    = ap (times number) (handed-same xs ys (puts-asked xs from asked.share (Some n) asked.here)) in
    omega (arith, few, more, same, is.given number, times-append number (map (λ (one : Taken). one.number) now.taken.items) (n ∷ []))

pub room_for : (now : Taker) (from n : ℕ) (after : List Share) → IsTaker now → IsAsked (taker_shares now) from (Some n) after
    → length now.taken.items < vec_capacity now.taken
room_for now from n after is asked =
    let few = no_longer (map (λ (one : Taken). one.number) now.taken.items ++ n ∷ []) (handed_in (taker_shares now)) (few_given now from n after is asked) in
    omega (arith, few, is.room, length-append (map (λ (one : Taken). one.number) now.taken.items) (n ∷ []), length-map now.taken.items (λ (one : Taken). one.number))

pub given_one : (now after : Taker) (from : ℕ) (one : Taken) → IsTaker now → IsAsked (taker_shares now) from (Some one.number) (taker_shares after)
    → after.place ≡ now.place → after.taken.items ≡ now.taken.items ++ one ∷ [] → vec_capacity now.taken ≤ vec_capacity after.taken → IsTaker after
given_one now after from one is asked place listed room =
    let n : ℕ = one.number in
    let xs : List Share = taker_shares now in
    let share = asked.share in
    let ys : List Share = set xs from (with_taken share (Some n)) in
    let handed : handed_in ys ≡ handed_in xs = handed-same xs ys (puts-asked xs from share (Some n) asked.here) in
    let handed_now : handed_in (taker_shares after) ≡ handed_in xs = ap handed_in asked.only ∙ handed in
    let long : length after.seats.items ≡ length now.seats.items
    = sym (long_shares after) ∙ (ap (λ (l : List Share). length l) asked.only ∙ (length-set xs from (with_taken share (Some n)) ∙ long_shares now)) in record {
      shares = subst (AreShares 1) (sym asked.only) (shares-given xs from n share asked.here asked.given.1 is.shares);
      alone = subst (All (λ (s : Share). s.has_joined ≡ false)) (sym asked.only)
          (All-set (λ (s : Share). s.has_joined ≡ false) xs from (with_taken share (Some n)) (at_of_all (λ (s : Share). s.has_joined ≡ false) xs is.alone from share asked.here) is.alone);
      place = omega (arith, place, long, is.place);
      small = omega (arith, long, is.small);
      order = subst (All (λ (s : Share). AreInOrder s.taken (numbers_in s.put))) (sym asked.only)
          (All-set (λ (s : Share). AreInOrder s.taken (numbers_in s.put)) xs from (with_taken share (Some n))
          (asked.given.1.order (at_of_all (λ (s : Share). s.has_joined ≡ false) xs is.alone from share asked.here)) is.order);
      room = omega (arith, ap (λ (l : List ℕ). length l) handed_now, room, is.room);
      given = λ number. (
          let more = taken-given xs from n share asked.here number in
          let is_taken : times number (taken_in (taker_shares after)) ≡ times number (taken_in ys) = ap (λ l. times number (taken_in l)) asked.only in
          let list : times number (map (λ (it : Taken). it.number) after.taken.items) ≡ times number (map (λ (it : Taken). it.number) now.taken.items ++ n ∷ [])
          = ap (λ l. times number (map (λ (it : Taken). it.number) l)) listed ∙ ap (times number) (map-append (λ (it : Taken). it.number) now.taken.items (one ∷ [])) in
          omega (arith, more, is_taken, list, is.given number, times-append number (map (λ (it : Taken). it.number) now.taken.items) (n ∷ [])));
    }

pub stays : (before now after : Taker) (turn from n : ℕ) → HasTurned (taker_shares before) before.place turn (taker_shares now) → taker_queues now ≡ taker_queues before
    → taker_queues after ≡ taker_queues now → IsAsked (taker_shares now) from (Some n) (taker_shares after)
    → StayAt (taker_queues before) (taker_queues after) (taker_shares before) (taker_shares after)
stays before now after turn from n was first second asked = record {
  queues = second ∙ first;
  puts = ap puts asked.only ∙ (puts-asked (taker_shares now) from asked.share (Some n) asked.here ∙ puts-turned (taker_shares before) before.place turn (taker_shares now) was);
}

pub gives : (before now after : Taker) (turn from : ℕ) (one : Taken) → IsTaker before → HasTurned (taker_shares before) before.place turn (taker_shares now)
    → IsAsked (taker_shares now) from (Some one.number) (taker_shares after) → one.from ≡ from
    → (from ≡ before.place + turn) ⊎ (from + length before.seats.items ≡ before.place + turn) → from < length before.seats.items
    → after.taken.items ≡ before.taken.items ++ one ∷ [] → GivesNumber before one after
gives before now after turn from one is was asked source where_ below listed =
    let n : ℕ = one.number in
    let place : ℕ = before.place in
    let share = asked.share in
    let bs : List Share = taker_shares before in
    let xs : List Share = taker_shares now in
    let ys : List Share = set xs from (with_taken share (Some n)) in
    let handed : handed_in xs ≡ handed_in bs = handed-same bs xs (puts-turned bs place turn xs was) in
    let took : taken_in xs ≡ taken_in bs = taken-turned bs place turn xs was in
    let fresh = fresh-given xs from n share asked.here asked.given.1 (shares-turned bs place turn xs was is.shares) in record {
      listed = listed;
      handed = sym (ap (times n) handed) ∙ fresh.0;
      fresh = sym (ap (times n) took) ∙ fresh.1;
      took = λ number. ap (λ l. times number (taken_in l)) asked.only ∙ (taken-given xs from n share asked.here number
          ∙ ap (λ l. times number l + times number (n ∷ [])) took);
      within = omega (arith, source, below, long_shares before);
      came_from = λ old at. (
          let here : get_elem? bs from ≡ some old = ap (get_elem? bs) (sym source) ∙ at in
          let same : share ≡ old = elim (was.each from old here) [
            | inl is_ ↦ some-injective share old (sym asked.here ∙ is_)
            | inr is_ ↦ absurd (true≢false (sym (ap (λ (s : Share). s.ended) (some-injective share (with_taken old None) (sym asked.here ∙ is_))) ∙ asked.given.0))
          ] in
          ap (get_elem? (taker_shares after)) source ∙ (ap (λ l. get_elem? l from) asked.only
          ∙ (put_here xs from share (with_taken share (Some n)) asked.here ∙ ap (λ s. some (with_taken s (Some n))) same)));
      own_first = λ apart own at. (
          let far : place ≢ from = λ same. apart (source ∙ sym same) in
          let there : get_elem? xs place ≡ some own = sym (set_else xs from place (with_taken share (Some n)) far) ∙ (ap (λ l. get_elem? l place) (sym asked.only) ∙ at) in
          was.ended place own there (omega arith) (elim where_ [
            | inl is_ ↦ omega (arith, is_, far)
            | inr is_ ↦ omega (arith, is_, is.place)
          ]));
    }
