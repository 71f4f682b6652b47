-- The groups of six by rising number, and their pairs.
use Rattle.std.proofs.Common.{◌≡◌, ◌≢◌, ℕ, zero, suc, ◌+◌, ◌<◌, ◌≤◌, ◌⊎◌, true, false, ◌||◌, eqb, List, [], ◌∷◌, All, Contains, length, take, drop, map, fold, inl, inr, refl, sym, ap, ◌∙◌, subst, arith}
use Rattle.std.specs.List.{AllPairs}
use Rattle.std.proofs.lemmas.List.Elements.{All-nil, All-cons, All-weaker}
use Rattle.std.proofs.lemmas.List.Kept.{AllPairs-cons}
use Rattle.std.proofs.lemmas.List.Sums.{sum_by-cons}
use Rattle.strip_mask.specs.Set.{IsSet, has, with, without, members, size}
use Rattle.strip_mask.proofs.ByMembers.{has-empty, has-with, has-with_same, has_from_with, has_from_without, below_64, IsSet-empty, IsSet-with, IsSet-without}
use Rattle.strip_mask.proofs.Members.{has_from_members, members-empty}
use Rattle.strip_mask.proofs.Sizes.{size-without, size-empty, empty_from_size, some_first, first_is, first_le, members-first}
use Rattle.strip_mask.proofs.Below.{is_set_below}
use Rattle.strip_model.specs.Film.{FilmData}
use Rattle.strip_mask.proofs.Lists.{contains_here, contains_later, contains_cases, contains_none}
use Rattle.std.proofs.Math.Bool.{or-true}
use Rattle.strip_film.specs.Film.{IsFilm}
use Rattle.strip_film.specs.Shoot.{on_location}
use Rattle.strip_film.proofs.Located.{location_lies}
use Rattle.strip_group.specs.Group.{group_extra}
use Rattle.strip_bound.specs.Bounds.{group_data, pair_extra, pairs_extra, set_of, by_six_from, groups_extra, groups_of}
use Rattle.strip_bound.specs.Waiting.{AreGroups}
use Rattle.std.proofs.lemmas.Bool.{false_from_ne_true}
use Rattle.strip_bound.proofs.Tails.{Apart}
use Rattle.strip_bound.proofs.Together.{extras_together, pair_at_most}

-- ---- rising lists

-- the numbers rise from `low` on, and are below 64
abbrev Rising : ℕ → List ℕ → Type 0
Rising low [] = Unit {0}
Rising low (x ∷ xs) = (low ≤ x) × (x < 64) × Rising (suc x) xs

rising_above : (low : ℕ) (xs : List ℕ) (i : ℕ) → Rising low xs → Contains xs i → low ≤ i
rising_above low [] i rising there = absurd (contains_none i there)
rising_above low (x ∷ xs) i rising there = elim (contains_cases x xs i there) [
  | inl same ↦ omega (arith, rising.0, same)
  | inr later ↦ omega (arith, rising.0, rising_above (suc x) xs i rising.2 later)
]

rising_members : (n low set : ℕ) → size set ≡ n → IsSet set → ((i : ℕ) → has set i ≡ true → low ≤ i) → Rising low (members set)
rising_members zero low set count is above = subst (Rising low) (sym (ap members (empty_from_size set is count) ∙ members-empty)) tt
rising_members (suc n) low set count is above =
    let found = some_first set is (λ none. let e : size set ≡ 0 = ap size none ∙ size-empty in omega (arith, e, count)) in
    let i : ℕ = found.0 in
    let there : has set i ≡ true = (first_is set i is found.1).0 in
    let fewer : size (without set i) + 1 ≡ size set = size-without set i is there in
    subst (Rising low) (sym (members-first set i is found.1)) (
      above i there,
      below_64 set i is there,
      rising_members n (suc i) (without set i) (omega (arith, fewer, count)) (IsSet-without set i is) (λ j member.
          let was = has_from_without set i j member in
          let no_lower : i ≤ j = first_le set i j is found.1 was.1 in
          let other : i ≢ j = was.0 in
          omega (arith, no_lower, other)),
    )

Rising-take : (n low : ℕ) (xs : List ℕ) → Rising low xs → Rising low (take n xs)
Rising-take zero low xs rising = tt
Rising-take (suc n) low [] rising = tt
Rising-take (suc n) low (x ∷ xs) rising = (rising.0, rising.1, Rising-take n (suc x) xs rising.2)

-- what is dropped rises from above what was taken
Rising-drop : (n low : ℕ) (xs : List ℕ) → Rising low xs
    → (middle : ℕ) × (low ≤ middle) × ((i : ℕ) → Contains (take n xs) i → i < middle) × Rising middle (drop n xs)
Rising-drop zero low xs rising = (low, omega arith, (λ i there. absurd (contains_none i there)), rising)
Rising-drop (suc n) low [] rising = (low, omega arith, (λ i there. absurd (contains_none i there)), tt)
Rising-drop (suc n) low (x ∷ xs) rising =
    let rest = Rising-drop n (suc x) xs rising.2 in (
      rest.0,
      omega (arith, rising.0, rest.1),
      (λ i there. elim (contains_cases x (take n xs) i there) [
        | inl same ↦ omega (arith, same, rest.1)
        | inr later ↦ rest.2 i later
      ]),
      rest.3,
    )

pub contains_take : (n : ℕ) (xs : List ℕ) (i : ℕ) → Contains (take n xs) i → Contains xs i
contains_take zero xs i there = absurd (contains_none i there)
contains_take (suc n) [] i there = there
contains_take (suc n) (x ∷ xs) i there = elim (contains_cases x (take n xs) i there) [
  | inl same ↦ subst (Contains (x ∷ xs)) same (contains_here x xs)
  | inr later ↦ contains_later x xs i (contains_take n xs i later)
]

pub contains_drop : (n : ℕ) (xs : List ℕ) (i : ℕ) → Contains (drop n xs) i → Contains xs i
contains_drop zero xs i there = there
contains_drop (suc n) [] i there = there
contains_drop (suc n) (x ∷ xs) i there = contains_later x xs i (contains_drop n xs i there)

pub drop_no_longer : (n : ℕ) (xs : List ℕ) → length (drop n xs) ≤ length xs
drop_no_longer zero xs = omega arith
drop_no_longer (suc n) [] = omega arith
drop_no_longer (suc n) (x ∷ xs) = omega (arith, drop_no_longer n xs)

-- ---- the set of a list

kept_by_fold : (set : ℕ) (xs : List ℕ) (i : ℕ) → has set i ≡ true → has (fold with set xs) i ≡ true
kept_by_fold set [] i there = there
kept_by_fold set (x ∷ xs) i there = kept_by_fold (with set x) xs i (has-with set x i ∙ ap (λ b. eqb x i || b) there ∙ or-true (eqb x i))

added_by_fold : (set : ℕ) (xs : List ℕ) (i : ℕ) → Contains xs i → has (fold with set xs) i ≡ true
added_by_fold set [] i there = absurd (contains_none i there)
added_by_fold set (x ∷ xs) i there = elim (contains_cases x xs i there) [
  | inl same ↦ kept_by_fold (with set x) xs i (subst (λ (j : ℕ). has (with set x) j ≡ true) same (has-with_same set x))
  | inr later ↦ added_by_fold (with set x) xs i later
]

from_fold : (set : ℕ) (xs : List ℕ) (i : ℕ) → has (fold with set xs) i ≡ true → (has set i ≡ true) ⊎ Contains xs i
from_fold set [] i there = inl there
from_fold set (x ∷ xs) i there = elim (from_fold (with set x) xs i there) [
  | inl before ↦ elim (has_from_with set x i before) [
    | inl same ↦ inr (subst (Contains (x ∷ xs)) same (contains_here x xs))
    | inr was ↦ inl was
  ]
  | inr later ↦ inr (contains_later x xs i later)
]

-- one more of a list leaves those in the set who are
more_by_fold : (set n : ℕ) (xs : List ℕ) (i : ℕ) → has (fold with set (take n xs)) i ≡ true → has (fold with set (take (suc n) xs)) i ≡ true
more_by_fold set zero xs i there = kept_by_fold set (take 1 xs) i there
more_by_fold set (suc n) [] i there = there
more_by_fold set (suc n) (x ∷ xs) i there = more_by_fold (with set x) n xs i there

pub more_taken : (n : ℕ) (xs : List ℕ) (i : ℕ) → has (set_of (take n xs)) i ≡ true → has (set_of (take (suc n) xs)) i ≡ true
more_taken n xs i there = more_by_fold 0 n xs i there

pub from_set_of : (xs : List ℕ) (i : ℕ) → has (set_of xs) i ≡ true → Contains xs i
from_set_of xs i there = elim (from_fold 0 xs i there) [
  | inl none ↦ absurd (let f : has 0 i ≡ false = has-empty i in cc)
  | inr found ↦ found
]

pub in_set_of : (xs : List ℕ) (i : ℕ) → Contains xs i → has (set_of xs) i ≡ true
in_set_of xs i there = added_by_fold 0 xs i there

IsSet-fold : (set low : ℕ) (xs : List ℕ) → IsSet set → Rising low xs → IsSet (fold with set xs)
IsSet-fold set low [] is rising = is
IsSet-fold set low (x ∷ xs) is rising = IsSet-fold (with set x) (suc x) xs (IsSet-with set x is rising.1) rising.2

-- ---- two by two

module _ (film : FilmData) (set : ℕ) where
  pairs_at_most_group : (low : ℕ) (xs : List ℕ) → Rising low xs → pairs_extra film set xs ≤ group_extra (group_data film) set (set_of xs)
  pairs_at_most_group low [] rising = omega arith
  pairs_at_most_group low (a ∷ []) rising = omega arith
  pairs_at_most_group low (a ∷ b ∷ xs) rising =
      let pair : ℕ = with (with 0 a) b in
      let both : Rising low (a ∷ b ∷ []) = (rising.0, rising.1, (rising.2.0, rising.2.1, tt)) in
      let is_pair : IsSet pair = IsSet-fold 0 low (a ∷ b ∷ []) IsSet-empty both in
      let differ : a ≢ b = λ same. omega (arith, rising.2.0, same) in
      let rest : pairs_extra film set xs ≤ group_extra (group_data film) set (set_of xs) = pairs_at_most_group (suc b) xs rising.2.2 in
      let two : pair_extra film set a b ≤ group_extra (group_data film) set pair
      = pair_at_most film set pair a b is_pair differ (added_by_fold 0 (a ∷ b ∷ []) a (contains_here a (b ∷ []))) (has-with_same (with 0 a) b) only in
      let together : group_extra (group_data film) set pair + group_extra (group_data film) set (set_of xs) ≤ group_extra (group_data film) set (set_of (a ∷ b ∷ xs))
      = extras_together (group_data film) set (set_of (a ∷ b ∷ xs)) pair (set_of xs) (IsSet-fold 0 low (a ∷ b ∷ xs) IsSet-empty rising) is_pair (IsSet-fold 0 (suc b) xs IsSet-empty rising.2.2)
      (λ i there. kept_by_fold pair xs i there) (λ i there. added_by_fold pair xs i (from_set_of xs i there)) apart in
      omega (arith, rest, two, together)
    where
      only : (i : ℕ) → has (with (with 0 a) b) i ≡ true → (a ≡ i) ⊎ (b ≡ i)
      only i there = elim (has_from_with (with 0 a) b i there) [
        | inl second ↦ inr second
        | inr was ↦ elim (has_from_with 0 a i was) [
          | inl first ↦ inl first
          | inr none ↦ absurd (let f : has 0 i ≡ false = has-empty i in cc)
        ]
      ]

      apart : (i : ℕ) → has (with (with 0 a) b) i ≡ true → has (set_of xs) i ≡ false
      apart i there = false_from_ne_true (has (set_of xs) i) (λ later.
          let above : suc b ≤ i = rising_above (suc b) xs i rising.2.2 (from_set_of xs i later) in
          elim (only i there) [
            | inl first ↦ omega (arith, above, first, rising.2.0)
            | inr second ↦ omega (arith, above, second)
          ])

  -- the pairs of six actors, and those of the others
  pairs_by_six : (xs : List ℕ) → pairs_extra film set xs ≡ pairs_extra film set (take 6 xs) + pairs_extra film set (drop 6 xs)
  pairs_by_six [] = omega arith
  pairs_by_six (a ∷ []) = omega arith
  pairs_by_six (a ∷ b ∷ []) = omega arith
  pairs_by_six (a ∷ b ∷ c ∷ []) = omega arith
  pairs_by_six (a ∷ b ∷ c ∷ d ∷ []) = omega arith
  pairs_by_six (a ∷ b ∷ c ∷ d ∷ e ∷ []) = omega arith
  pairs_by_six (a ∷ b ∷ c ∷ d ∷ e ∷ f ∷ xs) = omega arith

  -- ---- six by six

  abbrev pieces : ℕ → List ℕ → List ℕ
  pieces n xs = map set_of (by_six_from n xs)

  pairs_at_most_pieces : (n low : ℕ) (xs : List ℕ) → length xs ≤ n → Rising low xs → pairs_extra film set xs ≤ groups_extra film set (pieces n xs)
  pairs_at_most_pieces zero low [] count rising = omega arith
  pairs_at_most_pieces zero low (x ∷ xs) count rising = absurd (omega (arith, count))
  pairs_at_most_pieces (suc n) low [] count rising = omega arith
  pairs_at_most_pieces (suc n) low (x ∷ xs) count rising =
      let all : List ℕ = x ∷ xs in
      let dropped = Rising-drop 6 low all rising in
      let first : pairs_extra film set (take 6 all) ≤ group_extra (group_data film) set (set_of (take 6 all)) = pairs_at_most_group low (take 6 all) (Rising-take 6 low all rising) in
      let rest : pairs_extra film set (drop 6 all) ≤ groups_extra film set (pieces n (drop 6 all))
      = pairs_at_most_pieces n dropped.0 (drop 6 all) (omega (arith, count, drop_no_longer 5 xs)) dropped.3 in
      omega (arith, pairs_by_six all, first, rest, sum_by-cons (group_extra (group_data film) set) (set_of (take 6 all)) (pieces n (drop 6 all)))

  -- the group's actors are of the list
  abbrev IsFrom : List ℕ → ℕ → Type 0
  IsFrom xs group = (i : ℕ) → has group i ≡ true → Contains xs i

  pieces_from : (n : ℕ) (xs : List ℕ) → All (IsFrom xs) (pieces n xs)
  pieces_from zero xs = All-nil (IsFrom xs)
  pieces_from (suc n) [] = All-nil (IsFrom [])
  pieces_from (suc n) (x ∷ xs) =
      All-cons (IsFrom (x ∷ xs)) (set_of (take 6 (x ∷ xs))) (pieces n (drop 6 (x ∷ xs)))
      (λ i there. contains_take 6 (x ∷ xs) i (from_set_of (take 6 (x ∷ xs)) i there))
      (All-weaker (IsFrom (drop 6 (x ∷ xs))) (IsFrom (x ∷ xs))
      (λ group from i there. contains_drop 6 (x ∷ xs) i (from i there)) (pieces n (drop 6 (x ∷ xs))) (pieces_from n (drop 6 (x ∷ xs))))

  pieces_apart : (n low : ℕ) (xs : List ℕ) → Rising low xs → AllPairs Apart (pieces n xs)
  pieces_apart zero low xs rising = λ i j d less within. absurd (omega (arith, within))
  pieces_apart (suc n) low [] rising = λ i j d less within. absurd (omega (arith, within))
  pieces_apart (suc n) low (x ∷ xs) rising =
      let dropped = Rising-drop 6 low (x ∷ xs) rising in
      AllPairs-cons Apart (set_of (take 6 (x ∷ xs))) (pieces n (drop 6 (x ∷ xs)))
      (All-weaker (IsFrom (drop 6 (x ∷ xs))) (Apart (set_of (take 6 (x ∷ xs))))
      (λ group from i there later.
      let below : i < dropped.0 = dropped.2 i (from_set_of (take 6 (x ∷ xs)) i there) in
      let above : dropped.0 ≤ i = rising_above dropped.0 (drop 6 (x ∷ xs)) i dropped.3 (from i later) in
      omega (arith, below, above)) (pieces n (drop 6 (x ∷ xs))) (pieces_from n (drop 6 (x ∷ xs))))
      (pieces_apart n dropped.0 (drop 6 (x ∷ xs)) dropped.3)

  -- ---- the groups on location

  located_rise : IsFilm film → Rising 0 (members (on_location film set))
  located_rise is = rising_members (size (on_location film set)) 0 (on_location film set) refl
      (is_set_below (length film.rates) (on_location film set) is.actor_count (location_lies film set is)) (λ i _. omega arith)

  pub pairs_at_most_groups : IsFilm film → pairs_extra film set (members (on_location film set)) ≤ groups_extra film set (groups_of film set)
  pairs_at_most_groups is = pairs_at_most_pieces (length (members (on_location film set))) 0 (members (on_location film set)) (omega arith) (located_rise is)

  pub groups_are : IsFilm film → AreGroups film set (groups_of film set)
  groups_are is = record {
    located = All-weaker (IsFrom (members (on_location film set))) (λ group. (i : ℕ) → has group i ≡ true → has (on_location film set) i ≡ true)
        (λ group from i there. has_from_members (on_location film set) i (from i there)) (groups_of film set)
        (pieces_from (length (members (on_location film set))) (members (on_location film set)));
    apart = pieces_apart (length (members (on_location film set))) 0 (members (on_location film set)) (located_rise is);
  }
