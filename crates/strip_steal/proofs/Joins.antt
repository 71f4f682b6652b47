-- A pool takes in the shares of a taker.
use Rattle.std.proofs.Common.{◌≡◌, ℕ, suc, ◌+◌, ◌≤◌, true, ◌&&◌, All, List, [], ◌∷◌, ◌++◌, length, set, inl, inr, refl, sym, ap, ◌∙◌, subst, length-set, arith}
use Rattle.std.proofs.lemmas.Bool.{cases_eq, and_parts, or_right}
use Rattle.std.proofs.lemmas.List.{length-map}
use Rattle.std.proofs.lemmas.List.Elements.{All-cons, All-head, All-nil, All-tail}
use mathlib.Core.Option.{some, some-injective}
use lib.ListN.{get_elem?}
use Rattle.crossbeam_deque.specs.Handles.{worker_deque, worker_view}
use Rattle.crossbeam_deque.proofs.Lists.{set_else}
use Rattle.strip_steal.specs.declared.queues.Pool.{Pool}
use Rattle.strip_steal.specs.declared.share.Share.{Share}
use Rattle.strip_steal.specs.declared.taker.Taker.{Taker}
use Rattle.strip_steal.specs.Rule.{full_weight, numbers_in, times}
use Rattle.strip_steal.specs.Seat.{queue_of, share_of}
use Rattle.strip_steal.specs.Steps.{AreCounted, AreJoined, joined}
use Rattle.strip_steal.specs.Taker.{AreShares, HasGathered, IsPool, IsShare, IsTaker, handed_in, have_ended, pool_queues, pool_shares, puts, taken_in, taker_queues, taker_shares}
use Rattle.strip_steal.proofs.Handed.{few-in, handed-same}
use Rattle.strip_steal.proofs.Numbers.{times-append}
use Rattle.strip_steal.proofs.Places.{all_of_at, some_at, within}
use Rattle.strip_steal.proofs.Shares.{put_here}

pub joined-start : (before others : List Share) → AreJoined before others (length others) before
joined-start before others = record {
  long = refl;
  early = λ i share at below. at;
  late = λ i share other at there behind. absurd (let inner = within others i other there in omega (arith, inner, behind));
}

pub joined-step : (before others now : List Share) (n : ℕ) (v w : Share) → AreJoined before others (n + 1) now → get_elem? now n ≡ some v → get_elem? others n ≡ some w
    → AreCounted (joined v w) → AreJoined before others n (set now n (joined v w))
joined-step before others now n v w was here there counted = record {
  long = length-set now n (joined v w) ∙ was.long;
  early = λ i share at below. set_else now n i (joined v w) (λ same. omega (arith, same, below)) ∙ was.early i share at (omega (arith, below));
  late = λ i share other at beside behind. elim (cases_eq i n) [
    | inl same ↦ (
        let mine : v ≡ share = some-injective v share (sym here ∙ (ap (get_elem? now) (sym same) ∙ was.early i share at (omega (arith, same)))) in
        let theirs : w ≡ other = some-injective w other (sym there ∙ (ap (get_elem? others) (sym same) ∙ beside)) in
        let both : joined v w ≡ joined share other = λ k. joined (mine k) (theirs k) in (
          ap (get_elem? (set now n (joined v w))) same ∙ (put_here now n v (joined v w) here ∙ ap some both),
          subst AreCounted both counted,
        ))
    | inr apart ↦ (
        let later = was.late i share other at beside (omega (arith, apart, behind)) in
        (set_else now n i (joined v w) apart ∙ later.0, later.1))
  ];
}

-- ---- the shares of a pool and of a taker, joined one by one

abbrev both_of : List Share → List Share → List Share
both_of [] ys = []
both_of (x ∷ xs) [] = []
both_of (x ∷ xs) (y ∷ ys) = joined x y ∷ both_of xs ys

both-is : (xs ys zs : List Share) → length ys ≡ length xs → length zs ≡ length xs
    → ((i : ℕ) (x y : Share) → get_elem? xs i ≡ some x → get_elem? ys i ≡ some y → get_elem? zs i ≡ some (joined x y)) → zs ≡ both_of xs ys
both-is [] ys [] long same each = refl
both-is [] ys (z ∷ zs) long same each = absurd (omega (arith, same))
both-is (x ∷ xs) [] zs long same each = absurd (omega (arith, long))
both-is (x ∷ xs) (y ∷ ys) [] long same each = absurd (omega (arith, same))
both-is (x ∷ xs) (y ∷ ys) (z ∷ zs) long same each =
    let first : z ≡ joined x y = some-injective z (joined x y) (each 0 x y refl refl) in
    let rest : zs ≡ both_of xs ys = both-is xs ys zs (omega (arith, long)) (omega (arith, same)) (λ i a b at there. each (suc i) a b at there) in λ k. first k ∷ rest k

both-taken : (number : ℕ) (xs ys : List Share) → length ys ≡ length xs
    → times number (taken_in (both_of xs ys)) ≡ times number (taken_in xs) + times number (taken_in ys)
both-taken number [] [] long = refl
both-taken number [] (y ∷ ys) long = absurd (omega (arith, long))
both-taken number (x ∷ xs) [] long = absurd (omega (arith, long))
both-taken number (x ∷ xs) (y ∷ ys) long =
    let rest = both-taken number xs ys (omega (arith, long)) in
    omega (
      arith,
      rest,
      times-append number (x.taken ++ y.taken) (taken_in (both_of xs ys)),
      times-append number x.taken y.taken,
      times-append number x.taken (taken_in xs),
      times-append number y.taken (taken_in ys),
    )

both-puts : (xs ys : List Share) → length ys ≡ length xs → puts (both_of xs ys) ≡ puts xs
both-puts [] ys long = refl
both-puts (x ∷ xs) [] long = absurd (omega (arith, long))
both-puts (x ∷ xs) (y ∷ ys) long = ap (λ l. x.put ∷ l) (both-puts xs ys (omega (arith, long)))

both-ended : (xs ys : List Share) → length ys ≡ length xs → have_ended ys ≡ true → have_ended (both_of xs ys) ≡ true
both-ended [] ys long are = refl
both-ended (x ∷ xs) [] long are = absurd (omega (arith, long))
both-ended (x ∷ xs) (y ∷ ys) long are =
    let parts = and_parts y.ended (have_ended ys) are in
    ap (λ b. b && have_ended (both_of xs ys)) (or_right x.ended y.ended parts.0) ∙ both-ended xs ys (omega (arith, long)) parts.1

both-shares : (weight : ℕ) (xs ys : List Share) → length ys ≡ length xs → All (IsShare weight) xs → All (IsShare 1) ys → All AreCounted (both_of xs ys)
    → All (IsShare (weight + 1)) (both_of xs ys)
both-shares weight [] ys long mine theirs counted = All-nil (IsShare (weight + 1))
both-shares weight (x ∷ xs) [] long mine theirs counted = absurd (omega (arith, long))
both-shares weight (x ∷ xs) (y ∷ ys) long mine theirs counted =
    let one = All-head (IsShare weight) x xs mine in
    let other = All-head (IsShare 1) y ys theirs in
    All-cons (IsShare (weight + 1)) (joined x y) (both_of xs ys)
    (record {
      weighs = omega (arith, one.weighs, other.weighs);
      closed = one.closed;
      few = (All-head AreCounted (joined x y) (both_of xs ys) counted).few;
    })
    (both-shares weight xs ys (omega (arith, long)) (All-tail (IsShare weight) x xs mine) (All-tail (IsShare 1) y ys theirs)
    (All-tail AreCounted (joined x y) (both_of xs ys) counted))

-- where the shares have all the weight, and an end of each queue was taken, each number was taken as often as it was handed in
each_taken : (number : ℕ) (zs : List Share) → All (IsShare full_weight) zs → All AreCounted zs → have_ended zs ≡ true
    → times number (taken_in zs) ≡ times number (handed_in zs)
each_taken number [] are counted ended = refl
each_taken number (z ∷ zs) are counted ended =
    let parts = and_parts z.ended (have_ended zs) ended in
    let one : times number z.taken ≡ times number (numbers_in z.put)
    = (All-head AreCounted z zs counted).each (All-head (IsShare full_weight) z zs are).weighs parts.0 number in
    let rest = each_taken number zs (All-tail (IsShare full_weight) z zs are) (All-tail AreCounted z zs counted) parts.1 in
    omega (arith, one, rest, times-append number z.taken (taken_in zs), times-append number (numbers_in z.put) (handed_in zs))

-- ---- a taker is gathered

counted_all : (before others after : List Share) → length others ≡ length before → AreJoined before others 0 after → All AreCounted after
counted_all before others after long are = all_of_at AreCounted after (λ i share at. (
    let inner = within after i share at in
    let mine = some_at before i (omega (arith, inner, are.long)) in
    let theirs = some_at others i (omega (arith, inner, are.long, long)) in
    let late = are.late i mine.0 theirs.0 mine.1 theirs.1 (omega arith) in
    subst AreCounted (sym (some-injective share (joined mine.0 theirs.0) (sym at ∙ late.0))) late.1))

pub gathers : (before after : Pool) (taker : Taker) (weight : ℕ) → IsPool weight before → IsTaker taker → taker_queues taker ≡ pool_queues before
    → after.count ≡ before.count → pool_queues after ≡ pool_queues before → AreJoined (pool_shares before) (taker_shares taker) 0 (pool_shares after)
    → HasGathered before taker after
gathers before after taker weight is_pool is_taker same count queues are =
    let xs : List Share = pool_shares before in
    let ys : List Share = taker_shares taker in
    let zs : List Share = pool_shares after in
    let long : length ys ≡ length xs = length-map taker.seats.items share_of ∙ (sym (length-map taker.seats.items queue_of)
    ∙ (ap (λ l. length l) same ∙ (length-map before.owners.items worker_deque ∙ sym (length-map before.owners.items worker_view)))) in
    let owners : length after.owners.items ≡ length before.owners.items
    = sym (length-map after.owners.items worker_view) ∙ (are.long ∙ length-map before.owners.items worker_view) in
    let both : zs ≡ both_of xs ys = both-is xs ys zs long are.long (λ i x y at there. (are.late i x y at there (omega arith)).0) in
    let counted : All AreCounted zs = counted_all xs ys zs long are in
    let entries : puts zs ≡ puts xs = ap puts both ∙ both-puts xs ys long in
    let handed : handed_in zs ≡ handed_in xs = handed-same xs zs entries in
    let shares : (weight : ℕ) → AreShares weight xs → AreShares (weight + 1) zs = λ w was. record {
      each = subst (All (IsShare (w + 1))) (sym both) (both-shares w xs ys long was.each is_taker.shares.each (subst (All AreCounted) both counted));
      once = λ number. subst (λ l. times number l ≤ 1) (sym handed) (was.once number);
    } in record {
      weight = λ w was. record {
        shares = shares w was.shares;
        some_queue = omega (arith, owners, was.some_queue);
        small = omega (arith, owners, was.small);
        count = count ∙ (was.count ∙ sym (ap (λ (l : List ℕ). length l) handed));
      };
      stays = record { queues = queues; puts = entries };
      took = λ number. ap (λ l. times number (taken_in l)) both ∙ both-taken number xs ys long;
      few = few-in (weight + 1) zs (shares weight is_pool.shares);
      ended = λ ended. ap have_ended both ∙ both-ended xs ys long ended;
      each = λ is ended number. each_taken number zs is.shares.each counted ended;
    }
