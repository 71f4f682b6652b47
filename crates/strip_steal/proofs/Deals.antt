-- How the numbers are dealt into the queues.
use Rattle.std.proofs.Common.{◌≡◌, ◌⊎◌, ℕ, zero, suc, ◌+◌, ◌-◌, ◌<◌, ◌≤◌, List, [], ◌∷◌, ◌++◌, Option, Some, None, length, map, drop, replicate, slice_index_or, inl, inr, refl, sym, ap, ◌∙◌, subst, append_assoc, append-nil, arith}
use Rattle.std.proofs.lemmas.List.{drop-drop, length-map}
use mathlib.Core.Option.{some, some-injective, some-ne-none}
use lib.ListN.{get_elem?}
use Rattle.crossbeam_deque.specs.Handles.{worker_view}
use Rattle.crossbeam_deque.proofs.Lists.{drop_at}
use Rattle.strip_steal.specs.declared.queues.Pool.{Pool}
use Rattle.strip_steal.specs.declared.share.Share.{Share}
use Rattle.strip_steal.specs.Rule.{full_weight, numbers_in, times, total}
use Rattle.strip_steal.specs.Steps.{IsClosed}
use Rattle.strip_steal.specs.Taker.{AreDealt, IsPool, IsShare, dealt, entries_in, entries_of, every, handed_in, pool_shares, taken_in}
use Rattle.strip_steal.proofs.Handed.{handed-total}
use Rattle.strip_steal.proofs.Numbers.{no_longer, numbers_in-append, times-cons}
use Rattle.strip_steal.proofs.Places.{all_of_at}

-- ---- every count-th number

pub every-drop : (count k : ℕ) (xs : List ℕ) → every count k xs ≡ every count 0 (drop k xs)
every-drop count zero xs = refl
every-drop count (suc k) [] = refl
every-drop count (suc k) (x ∷ xs) = every-drop count k xs

pub every-next : (count at : ℕ) (xs : List ℕ) (x : ℕ) → get_elem? xs at ≡ some x → 0 < count
    → every count 0 (drop at xs) ≡ x ∷ every count 0 (drop (at + count) xs)
every-next count at xs x here some_ =
    let place : suc at + (count - 1) ≡ at + count = omega (arith, some_) in
    ap (every count 0) (drop_at xs at x here) ∙ ap (λ l. x ∷ l)
    (every-drop count (count - 1) (drop (suc at) xs) ∙ ap (every count 0) (drop-drop (count - 1) (suc at) xs ∙ ap (λ n. drop n xs) place))

pub every-done : (count at : ℕ) (xs : List ℕ) → length xs ≤ at → every count 0 (drop at xs) ≡ []
every-done count zero [] past = refl
every-done count zero (x ∷ xs) past = absurd (omega (arith, past))
every-done count (suc at) [] past = refl
every-done count (suc at) (x ∷ xs) past = every-done count at xs (omega (arith, past))

-- ---- a number, and what is put

pub at_get : (xs : List ℕ) (i d : ℕ) → i < length xs → get_elem? xs i ≡ some (slice_index_or xs i d)
at_get [] i d inside = absurd (omega (arith, inside))
at_get (x ∷ xs) zero d inside = refl
at_get (x ∷ xs) (suc i) d inside = at_get xs i d (omega (arith, inside))

pub put-next : (entries : List (Option ℕ)) (count at : ℕ) (xs : List ℕ) (x : ℕ) (all : List (Option ℕ)) → get_elem? xs at ≡ some x → 0 < count
    → entries ++ map (λ (number : ℕ). Some number) (every count 0 (drop at xs)) ≡ all
    → (entries ++ Some x ∷ []) ++ map (λ (number : ℕ). Some number) (every count 0 (drop (at + count) xs)) ≡ all
put-next entries count at xs x all here some_ was =
    append_assoc entries (Some x ∷ []) (map (λ (number : ℕ). Some number) (every count 0 (drop (at + count) xs)))
    ∙ (ap (λ l. entries ++ map (λ (number : ℕ). Some number) l) (sym (every-next count at xs x here some_)) ∙ was)

pub put-done : (entries : List (Option ℕ)) (count at : ℕ) (xs : List ℕ) (all : List (Option ℕ)) → length xs ≤ at
    → entries ++ map (λ (number : ℕ). Some number) (every count 0 (drop at xs)) ≡ all → entries ≡ all
put-done entries count at xs all past was =
    sym (append-nil entries) ∙ (ap (λ l. entries ++ map (λ (number : ℕ). Some number) l) (sym (every-done count at xs past)) ∙ was)

-- ---- the numbers among what is put, and no number behind an end

numbers_in-numbers : (xs : List ℕ) → numbers_in (map (λ (number : ℕ). Some number) xs) ≡ xs
numbers_in-numbers [] = refl
numbers_in-numbers (x ∷ xs) = ap (λ l. x ∷ l) (numbers_in-numbers xs)

numbers_in-ends : (n : ℕ) → numbers_in (replicate n None) ≡ []
numbers_in-ends zero = refl
numbers_in-ends (suc n) = numbers_in-ends n

numbers_in-dealt : (count : ℕ) (numbers : List ℕ) (place : ℕ) → numbers_in (entries_of count numbers place) ≡ every count place numbers
numbers_in-dealt count numbers place =
    numbers_in-append (entries_in count numbers place) (replicate count None)
    ∙ ((λ i. numbers_in-numbers (every count place numbers) i ++ numbers_in-ends count i) ∙ append-nil (every count place numbers))

none_left : (xs ys : List ℕ) → xs ++ ys ≡ [] → ys ≡ []
none_left [] ys is = is
none_left (x ∷ xs) ys is = absurd (omega (arith, ap (λ (l : List ℕ). length l) is))

abbrev begins_with_number : List (Option ℕ) → ℕ
begins_with_number [] = 0
begins_with_number (None ∷ entries) = 0
begins_with_number (Some number ∷ entries) = 1

closed_behind : (xs : List ℕ) (n : ℕ) (gone items : List (Option ℕ)) → gone ++ None ∷ items ≡ map (λ (number : ℕ). Some number) xs ++ replicate n None
    → numbers_in items ≡ []
closed_behind [] n gone items is = none_left (numbers_in gone) (numbers_in items) (sym (numbers_in-append gone (None ∷ items)) ∙ (ap numbers_in is ∙ numbers_in-ends n))
closed_behind (x ∷ xs) n [] items is = absurd (let differ : 0 ≡ 1 = ap begins_with_number is in omega (arith, differ))
closed_behind (x ∷ xs) n (entry ∷ gone) items is = closed_behind xs n gone items (ap (drop 1) is)

pub dealt-closed : (count : ℕ) (numbers : List ℕ) (place : ℕ) → IsClosed (entries_of count numbers place)
dealt-closed count numbers place gone items is = closed_behind (every count place numbers) count gone items is

-- ---- all that is put into the queues

abbrev sums : (ℕ → ℕ) → ℕ → ℕ
sums g zero = 0
sums g (suc n) = g 0 + sums (λ p. g (suc p)) n

sums-last : (g : ℕ → ℕ) (n : ℕ) → sums g (suc n) ≡ sums g n + g n
sums-last g zero = omega arith
sums-last g (suc n) = (let rest = sums-last (λ p. g (suc p)) n in omega (arith, rest))

sums-none : (g : ℕ → ℕ) → ((p : ℕ) → g p ≡ 0) → (n : ℕ) → sums g n ≡ 0
sums-none g none zero = refl
sums-none g none (suc n) = omega (arith, none 0, sums-none (λ p. g (suc p)) (λ p. none (suc p)) n)

every-none : (number count p : ℕ) → times number (every count p []) ≡ 0
every-none number count zero = refl
every-none number count (suc p) = refl

sums-every : (number count : ℕ) (xs : List ℕ) → sums (λ p. times number (every (suc count) p xs)) (suc count) ≡ times number xs
sums-every number count [] = sums-none (λ p. times number (every (suc count) p [])) (every-none number (suc count)) (suc count)
sums-every number count (x ∷ xs) =
    let rest = sums-every number count xs in
    let last = sums-last (λ p. times number (every (suc count) p xs)) count in
    let less : suc count - 1 ≡ count = omega arith in
    let first : times number (x ∷ every (suc count) (suc count - 1) xs) ≡ times number (x ∷ []) + times number (every (suc count) count xs)
    = times-cons number x (every (suc count) (suc count - 1) xs) ∙ ap (λ k. times number (x ∷ []) + times number (every (suc count) k xs)) less in
    omega (arith, rest, last, first, times-cons number x xs)

total-sums : (f : Share → ℕ) (g : ℕ → ℕ) (shares : List Share) → ((p : ℕ) (share : Share) → get_elem? shares p ≡ some share → f share ≡ g p)
    → total f shares ≡ sums g (length shares)
total-sums f g [] each = refl
total-sums f g (x ∷ xs) each = omega (arith, each 0 x refl, total-sums f (λ p. g (suc p)) xs (λ p share at. each (suc p) share at))

pub handed-dealt : (count : ℕ) (numbers : List ℕ) (shares : List Share) → 0 < count → AreDealt count numbers shares → (number : ℕ)
    → times number (handed_in shares) ≡ times number numbers
handed-dealt zero numbers shares some_ are number = absurd (omega (arith, some_))
handed-dealt (suc count) numbers shares some_ are number =
    handed-total number shares
    ∙ (total-sums (λ (s : Share). times number (numbers_in s.put)) (λ p. times number (every (suc count) p numbers)) shares
    (λ p share at. ap (λ (s : Share). times number (numbers_in s.put)) (are.filled p share at) ∙ ap (times number) (numbers_in-dealt (suc count) numbers p))
    ∙ (ap (sums (λ p. times number (every (suc count) p numbers))) are.long ∙ sums-every number count numbers))

untaken : (shares : List Share) → ((p : ℕ) (share : Share) → get_elem? shares p ≡ some share → share.taken ≡ []) → taken_in shares ≡ []
untaken [] each = refl
untaken (x ∷ xs) each = ap (λ l. l ++ taken_in xs) (each 0 x refl) ∙ untaken xs (λ p share at. each (suc p) share at)

pub untaken-dealt : (count : ℕ) (numbers : List ℕ) (shares : List Share) → AreDealt count numbers shares → (number : ℕ) → times number (taken_in shares) ≡ 0
untaken-dealt count numbers shares are number = ap (times number) (untaken shares (λ p share at. ap (λ (s : Share). s.taken) (are.filled p share at)))

pub new_pool : (pool : Pool) (count : ℕ) (numbers : List ℕ) → 0 < count → count ≤ 64 → ((number : ℕ) → times number numbers ≤ 1) → pool.count ≡ length numbers
    → AreDealt count numbers (pool_shares pool) → IsPool full_weight pool
new_pool pool count numbers some_ small once size are =
    let xs : List Share = pool_shares pool in
    let handed = handed-dealt count numbers xs some_ are in
    let long : length pool.owners.items ≡ count = sym (length-map pool.owners.items worker_view) ∙ are.long in
    let least = no_longer numbers (handed_in xs) (λ number. omega (arith, handed number)) in
    let most = no_longer (handed_in xs) numbers (λ number. omega (arith, handed number)) in record {
      shares = record {
        each = all_of_at (IsShare full_weight) xs (λ p share at. subst (IsShare full_weight) (sym (are.filled p share at))
            (record { weighs = refl; closed = dealt-closed count numbers p; few = λ number. omega arith }));
        once = λ number. omega (arith, handed number, once number);
      };
      some_queue = omega (arith, long, some_);
      small = omega (arith, long, small);
      count = omega (arith, size, least, most);
    }

-- ---- the queues that were filled so far

abbrev pub AreFilled : ℕ → List ℕ → ℕ → List Share → Type 0
AreFilled count numbers place shares =
    (length shares ≡ place) × ((p : ℕ) (share : Share) → get_elem? shares p ≡ some share → share ≡ dealt count numbers p)

at_pushed : {A : Type 0} (l : List A) (a b : A) (j : ℕ) → get_elem? (l ++ a ∷ []) j ≡ some b → (get_elem? l j ≡ some b) ⊎ ((j ≡ length l) × (a ≡ b))
at_pushed [] a b zero e = inr (refl, some-injective a b e)
at_pushed [] a b (suc j) e = absurd (some-ne-none b (sym e))
at_pushed (x ∷ xs) a b zero e = inl e
at_pushed (x ∷ xs) a b (suc j) e = elim (at_pushed xs a b j e) [
  | inl there ↦ inl there
  | inr last ↦ inr (ap suc last.0, last.1)
]

long_pushed : {A : Type 0} (l : List A) (a : A) → length (l ++ a ∷ []) ≡ length l + 1
long_pushed [] a = omega arith
long_pushed (x ∷ xs) a = omega (arith, long_pushed xs a)

pub filled-none : (count : ℕ) (numbers : List ℕ) → AreFilled count numbers 0 []
filled-none count numbers = (refl, λ p share at. absurd (some-ne-none share (sym at)))

pub filled-step : (count : ℕ) (numbers : List ℕ) (place : ℕ) (shares : List Share) (share : Share) → AreFilled count numbers place shares
    → share ≡ dealt count numbers place → AreFilled count numbers (place + 1) (shares ++ share ∷ [])
filled-step count numbers place shares share was is = (
  long_pushed shares share ∙ ap (λ n. n + 1) was.0,
  λ p other at. elim (at_pushed shares share other p at) [
    | inl there ↦ was.1 p other there
    | inr last ↦ sym last.1 ∙ (is ∙ ap (dealt count numbers) (sym (last.0 ∙ was.0)))
  ],
)
