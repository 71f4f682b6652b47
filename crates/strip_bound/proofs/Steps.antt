-- What the turns of the loops over actors keep.
use Rattle.std.proofs.Common.{◌≡◌, ℕ, zero, suc, ◌+◌, ◌-◌, ◌<◌, ◌≤◌, ◌⊎◌, Bool, true, false, cond, ◌&&◌, nat_lt, leb, List, [], ◌∷◌, ◌++◌, filter, fold, length, take, drop, insert, slice_index, inl, inr, refl, sym, ap, ◌∙◌, arith}
use Rattle.std.proofs.Math.Seq.{take-suc, take-nil}
use Rattle.std.proofs.lemmas.Bool.{cases_lt, lt-ltb, le-ltb, le-leb, lt-leb, false_from_ne_true}
use Rattle.std.proofs.lemmas.List.Elements.{filter-append, Contains-get_or}
use Rattle.std.proofs.lemmas.List.Sums.{fold-append}
use Rattle.strip_mask.specs.Set.{LiesBelow, has, meet, with, members, numbers_below, size}
use Rattle.strip_mask.proofs.ByMembers.{has-meet}
use Rattle.strip_mask.proofs.Members.{kept-more, length-numbers_below, members_is, numbers_rise}
use Rattle.strip_mask.proofs.Sizes.{length-members}
use Rattle.strip_model.specs.Film.{FilmData}
use Rattle.strip_model.specs.Pay.{works}
use Rattle.strip_bound.specs.Falling.{by_falling, placed}
use Rattle.strip_bound.specs.Tables.{ArePlays}
use Rattle.strip_bound.proofs.Fall.{below_from_numbers, by_falling_kept, same_length, same_members}
use Rattle.std.proofs.Math.Bool.{and_comm}

append_none : (xs : List ℕ) → xs ++ [] ≡ xs
append_none [] = refl
append_none (x ∷ xs) = ap (λ (zs : List ℕ). x ∷ zs) (append_none xs)

-- ---- the place of a number in a list by falling value

module _ (value : ℕ → ℕ) where
  pub placed_is : (ys : List ℕ) (x at : ℕ) → at ≤ length ys → ((k : ℕ) → k < at → value x ≤ value (slice_index ys k))
      → (at ≡ length ys) ⊎ (value (slice_index ys at) < value x) → placed value ys x ≡ insert ys at x
  placed_is [] x zero within above next = refl
  placed_is [] x (suc at) within above next = absurd (omega (arith, within))
  placed_is (y ∷ ys) x zero within above next = elim next [
    | inl none ↦ absurd (omega (arith, none))
    | inr lower ↦ ap (λ b. cond b (x ∷ y ∷ ys) (y ∷ placed value ys x)) (lt-ltb (value y) (value x) lower)
  ]
  placed_is (y ∷ ys) x (suc at) within above next =
      ap (λ b. cond b (x ∷ y ∷ ys) (y ∷ placed value ys x)) (le-ltb (value y) (value x) (above 0 (omega arith)))
      ∙ ap (λ (zs : List ℕ). y ∷ zs) (placed_is ys x at (omega (arith, within)) (λ k less. above (suc k) (omega (arith, less))) (elim next [
        | inl end ↦ inl (omega (arith, end))
        | inr lower ↦ inr lower
      ]))

  -- one number more
  pub fall_more : (n : ℕ) → by_falling value (numbers_below (suc n)) ≡ placed value (by_falling value (numbers_below n)) n
  unfolding numbers_below
  fall_more n = fold-append (placed value) [] (numbers_below n) (n ∷ [])

  pub fall_kept : (p : ℕ → Bool) (n : ℕ) → p n ≡ true
      → by_falling value (filter p (numbers_below (suc n))) ≡ placed value (by_falling value (filter p (numbers_below n))) n
  fall_kept p n passes =
      ap (by_falling value) (kept-more p n ∙ ap (λ b. filter p (numbers_below n) ++ cond b (n ∷ []) []) passes)
      ∙ fold-append (placed value) [] (filter p (numbers_below n)) (n ∷ [])

  pub fall_same : (p : ℕ → Bool) (n : ℕ) → p n ≡ false
      → by_falling value (filter p (numbers_below (suc n))) ≡ by_falling value (filter p (numbers_below n))
  fall_same p n fails =
      ap (by_falling value) (kept-more p n ∙ ap (λ b. filter p (numbers_below n) ++ cond b (n ∷ []) []) fails ∙ append_none (filter p (numbers_below n)))

pub filter_short : (p : ℕ → Bool) (xs : List ℕ) → length (filter p xs) ≤ length xs
filter_short p [] = omega arith
filter_short p (x ∷ xs) = by_test (p x) (filter_short p xs)
  where
    by_test : (b : Bool) → length (filter p xs) ≤ length xs → length (cond b (x ∷ filter p xs) (filter p xs)) ≤ suc (length xs)
    by_test true short = omega (arith, short)
    by_test false short = omega (arith, short)

-- ---- who passes, one place after the other

pub kept_next : (p : ℕ → Bool) (xs : List ℕ) (k : ℕ) → k < length xs → p (slice_index xs k) ≡ true
    → filter p (take (suc k) xs) ≡ filter p (take k xs) ++ slice_index xs k ∷ []
kept_next p xs k within passes =
    ap (filter p) (take-suc xs k 0 within) ∙ filter-append p (take k xs) (slice_index xs k ∷ [])
    ∙ ap (λ b. filter p (take k xs) ++ cond b (slice_index xs k ∷ []) []) passes

pub passed_next : (p : ℕ → Bool) (xs : List ℕ) (k : ℕ) → k < length xs → p (slice_index xs k) ≡ false
    → filter p (take (suc k) xs) ≡ filter p (take k xs)
passed_next p xs k within fails =
    ap (filter p) (take-suc xs k 0 within) ∙ filter-append p (take k xs) (slice_index xs k ∷ [])
    ∙ ap (λ b. filter p (take k xs) ++ cond b (slice_index xs k ∷ []) []) fails ∙ append_none (filter p (take k xs))

-- numbers none of which passes change nothing
none_more : (p : ℕ → Bool) (n k : ℕ) → ((i : ℕ) → n ≤ i → p i ≡ false) → filter p (numbers_below (n + k)) ≡ filter p (numbers_below n)
none_more p n zero none = ap (λ (m : ℕ). filter p (numbers_below m)) (omega arith)
none_more p n (suc k) none =
    let next : n + suc k ≡ suc (n + k) = omega arith in
    ap (λ (m : ℕ). filter p (numbers_below m)) next ∙ kept-more p (n + k) ∙ ap (λ b. filter p (numbers_below (n + k)) ++ cond b ((n + k) ∷ []) []) (none (n + k) (omega arith))
    ∙ append_none (filter p (numbers_below (n + k))) ∙ none_more p n k none

pub members_below_are : (set n : ℕ) → n ≤ 64 → LiesBelow n set → members set ≡ filter (has set) (numbers_below n)
members_below_are set n few lies =
    let all : n + (64 - n) ≡ 64 = omega (arith, few) in
    members_is set ∙ ap (λ (m : ℕ). filter (has set) (numbers_below m)) (sym all)
    ∙ none_more (has set) n (64 - n) (λ i past. false_from_ne_true (has set i) (λ there. let less : i < n = lies i there in omega (arith, less, past)))

-- those of a set, out of all numbers by falling value
pub kept_falling : (value : ℕ → ℕ) (set n : ℕ) → n ≤ 64 → LiesBelow n set
    → filter (has set) (by_falling value (numbers_below n)) ≡ by_falling value (members set)
kept_falling value set n few lies =
    by_falling_kept value (has set) (numbers_below n) (numbers_rise n)
    ∙ ap (by_falling value) (sym (members_below_are set n few lies))

-- ---- the scenes with an actor and those without

filter_twice : (p q : ℕ → Bool) (xs : List ℕ) → filter p (filter q xs) ≡ filter (λ x. q x && p x) xs
filter_twice p q [] = refl
filter_twice p q (x ∷ xs) = by_test (q x) (filter_twice p q xs)
  where
    both : List ℕ
    both = filter (λ y. q y && p y) xs

    by_test : (b : Bool) → filter p (filter q xs) ≡ both → filter p (cond b (x ∷ filter q xs) (filter q xs)) ≡ cond (b && p x) (x ∷ both) both
    by_test true same = ap (λ (ys : List ℕ). cond (p x) (x ∷ ys) ys) same
    by_test false same = same

pub scenes_counted : (film : FilmData) (plays : List ℕ) (set actor : ℕ) → ArePlays film plays
    → size (meet (slice_index plays actor) set) ≡ length (filter (works film actor) (members set))
scenes_counted film plays set actor are =
    let both : (s : ℕ) → has (meet (slice_index plays actor) set) s ≡ (has set s && works film actor s)
    = (λ s. has-meet (slice_index plays actor) set s ∙ ap (λ b. b && has set s) (are.each actor s) ∙ and_comm (works film actor s) (has set s)) in
    sym (length-members (meet (slice_index plays actor) set))
    ∙ ap length (members_is (meet (slice_index plays actor) set) ∙ (λ i. filter (λ s. both s i) (numbers_below 64))
    ∙ sym (ap (filter (works film actor)) (members_is set) ∙ filter_twice (works film actor) (has set) (numbers_below 64)))

-- ---- a piece of a list as a set

-- one number more
pub piece_more : (place end : ℕ) (xs : List ℕ) (set : ℕ) → place < end → place < length xs
    → fold with (with set (slice_index xs place)) (take (end - suc place) (drop (suc place) xs)) ≡ fold with set (take (end - place) (drop place xs))
piece_more place end xs set less within =
    let one : end - place ≡ suc (end - suc place) = omega (arith, less) in
    sym (ap (fold with set) (ap (λ (n : ℕ). take n (drop place xs)) one ∙ ap (take (suc (end - suc place))) (dropped place xs within)))
  where
    dropped : (k : ℕ) (ys : List ℕ) → k < length ys → drop k ys ≡ slice_index ys k ∷ drop (suc k) ys
    dropped k [] there = absurd (omega (arith, there))
    dropped zero (y ∷ ys) there = refl
    dropped (suc k) (y ∷ ys) there = dropped k ys (omega (arith, there))

-- none is left
pub piece_end : (place end : ℕ) (xs : List ℕ) (set : ℕ) → (end ≤ place) ⊎ (length xs ≤ place) → fold with set (take (end - place) (drop place xs)) ≡ set
piece_end place end xs set done = elim done [
  | inl past ↦ (let none : end - place ≡ 0 = omega (arith, past) in ap (λ (n : ℕ). fold with set (take n (drop place xs))) none)
  | inr short ↦ ap (λ (ys : List ℕ). fold with set (take (end - place) ys)) (nothing place xs short) ∙ ap (fold with set) (take-nil (end - place))
]
  where
    nothing : (k : ℕ) (ys : List ℕ) → length ys ≤ k → drop k ys ≡ []
    nothing zero [] few = refl
    nothing (suc k) [] few = refl
    nothing zero (y ∷ ys) few = absurd (omega (arith, few))
    nothing (suc k) (y ∷ ys) few = nothing k ys (omega (arith, few))

-- ---- at the start

pub fall_none : (value : ℕ → ℕ) → by_falling value (numbers_below 0) ≡ []
unfolding numbers_below
fall_none value = refl

pub filter_none : (value : ℕ → ℕ) (p : ℕ → Bool) → by_falling value (filter p (numbers_below 0)) ≡ []
unfolding numbers_below
filter_none value p = refl

pub two_or_more : (n : ℕ) → leb 2 n ≡ nat_lt 1 n
two_or_more n = elim (cases_lt 1 n) [
  | inl more ↦ le-leb 2 n (omega (arith, more)) ∙ sym (lt-ltb 1 n more)
  | inr few ↦ lt-leb 2 n (omega (arith, few)) ∙ sym (le-ltb 1 n few)
]

-- ---- the list of all actors

pub falling_below : (value : ℕ → ℕ) (n k : ℕ) → k < length (by_falling value (numbers_below n)) → slice_index (by_falling value (numbers_below n)) k < n
falling_below value n k within = below_from_numbers n (slice_index (by_falling value (numbers_below n)) k)
    ((same_members value (numbers_below n) (slice_index (by_falling value (numbers_below n)) k)).0
    (Contains-get_or (by_falling value (numbers_below n)) k 0 within))

pub length_falling : (value : ℕ → ℕ) (n : ℕ) → length (by_falling value (numbers_below n)) ≡ n
length_falling value n = same_length value (numbers_below n) ∙ length-numbers_below n

pub kept_few : (p : ℕ → Bool) (k : ℕ) (xs : List ℕ) → length (filter p (take k xs)) ≤ k
kept_few p k xs = omega (arith, filter_short p (take k xs), taken_few k xs)
  where
    taken_few : (n : ℕ) (ys : List ℕ) → length (take n ys) ≤ n
    taken_few zero ys = omega arith
    taken_few (suc n) [] = omega arith
    taken_few (suc n) (y ∷ ys) = omega (arith, taken_few n ys)
