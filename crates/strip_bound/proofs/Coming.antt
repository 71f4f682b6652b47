-- How the newcomers of a party are found.
use Rattle.std.proofs.Common.{◌≡◌, ℕ, zero, suc, ◌+◌, ◌*◌, ◌<◌, ◌≤◌, Bool, true, false, cond, not, ◌&&◌, ◌||◌, nat_lt, List, [], ◌∷◌, ◌++◌, Contains, filter, fold, length, take, sum_by, slice_index, inl, inr, refl, sym, ap, ◌∙◌, subst, arith}
use Rattle.std.proofs.Math.Nat.{mul-le-mul_left}
use Rattle.std.proofs.lemmas.Bool.{and_from, and_parts, cases_Bool, lt-ltb}
use Rattle.std.proofs.lemmas.List.Sums.{fold-append, sum_by-append, sum_by-cons}
use Rattle.strip_mask.specs.Set.{IsSet, has, meet, minus, union, with, members, numbers_below, sum_over}
use Rattle.strip_mask.proofs.Agree.{same_test}
use Rattle.strip_mask.proofs.ByMembers.{has-empty, has-meet, has-minus, has-union, same_has}
use Rattle.strip_mask.proofs.Lists.{contains_here, contains_later, contains_cases, contains_none}
use Rattle.strip_mask.proofs.Members.{Contains-members, has_from_members, kept-more, members_is}
use Rattle.strip_mask.proofs.Sums.{sum_below-ext}
use Rattle.strip_mask.proofs.Totals.{sum_over_is, sum_kept, sum_filter}
use Rattle.strip_mask.proofs.Turns.{turn_fits}
use Rattle.strip_model.specs.Film.{FilmData}
use Rattle.strip_model.specs.Pay.{works}
use Rattle.strip_film.specs.Film.{IsFilm}
use Rattle.strip_film.proofs.Costs.{hold_limit}
use Rattle.strip_bound.specs.Bounds.{set_of, works_any}
use Rattle.strip_bound.specs.Falling.{by_falling, placed}
use Rattle.strip_bound.specs.Tables.{ArePlays}
use Rattle.strip_bound.proofs.Fall.{contains_kept, from_placed}
use Rattle.strip_bound.proofs.Pieces.{from_set_of, in_set_of}

-- ---- numbers that pass a test, as a set

in_kept : (p : ℕ → Bool) (xs : List ℕ) (i : ℕ) → Contains xs i → p i ≡ true → Contains (filter p xs) i
in_kept p [] i there passes = absurd (contains_none i there)
in_kept p (x ∷ xs) i there passes = elim (contains_cases x xs i there) [
  | inl same ↦ (let first : p x ≡ true = ap p same ∙ passes in
      subst (λ (zs : List ℕ). Contains zs i) (sym (ap (λ b. cond b (x ∷ filter p xs) (filter p xs)) first))
      (subst (Contains (x ∷ filter p xs)) same (contains_here x (filter p xs))))
  | inr later ↦ elim (cases_Bool (p x)) [
    | inl first ↦ subst (λ (zs : List ℕ). Contains zs i) (sym (ap (λ b. cond b (x ∷ filter p xs) (filter p xs)) first))
        (contains_later x (filter p xs) i (in_kept p xs i later passes))
    | inr fails ↦ subst (λ (zs : List ℕ). Contains zs i) (sym (ap (λ b. cond b (x ∷ filter p xs) (filter p xs)) fails)) (in_kept p xs i later passes)
  ]
]

-- the scenes of a set with an actor
pub scenes_of : (film : FilmData) (plays : List ℕ) (set actor : ℕ) → IsSet set → ArePlays film plays
    → meet (slice_index plays actor) set ≡ set_of (filter (works film actor) (members set))
scenes_of film plays set actor is are = same_has (meet (slice_index plays actor) set) (set_of (filter (works film actor) (members set))) (λ i. same_test
    (has (meet (slice_index plays actor) set) i) (has (set_of (filter (works film actor) (members set))) i)
    (λ there. let both : (has (slice_index plays actor) i && has set i) ≡ true = sym (has-meet (slice_index plays actor) set i) ∙ there in
    let parts = and_parts (has (slice_index plays actor) i) (has set i) both in
    in_set_of (filter (works film actor) (members set)) i
    (in_kept (works film actor) (members set) i (Contains-members set i is parts.1) (sym (are.each actor i) ∙ parts.0)))
    (λ there. let found = contains_kept (works film actor) (members set) i (from_set_of (filter (works film actor) (members set)) i there) in
    has-meet (slice_index plays actor) set i
    ∙ and_from (has (slice_index plays actor) i) (has set i) (are.each actor i ∙ found.1) (has_from_members set i found.0)))

-- one number more
pub set_of_kept : (p : ℕ → Bool) (n : ℕ) → p n ≡ true → set_of (filter p (numbers_below (suc n))) ≡ with (set_of (filter p (numbers_below n))) n
set_of_kept p n passes = ap set_of (kept-more p n ∙ ap (λ b. filter p (numbers_below n) ++ cond b (n ∷ []) []) passes)
    ∙ fold-append with 0 (filter p (numbers_below n)) (n ∷ [])

append_none : (xs : List ℕ) → xs ++ [] ≡ xs
append_none [] = refl
append_none (x ∷ xs) = ap (λ (zs : List ℕ). x ∷ zs) (append_none xs)

pub set_of_same : (p : ℕ → Bool) (n : ℕ) → p n ≡ false → set_of (filter p (numbers_below (suc n))) ≡ set_of (filter p (numbers_below n))
set_of_same p n fails = ap set_of (kept-more p n ∙ ap (λ b. filter p (numbers_below n) ++ cond b (n ∷ []) []) fails
    ∙ append_none (filter p (numbers_below n)))

pub set_of_none : (p : ℕ → Bool) → set_of (filter p (numbers_below 0)) ≡ 0
unfolding numbers_below
set_of_none p = refl

-- ---- scenes with one of some actors

module _ (film : FilmData) (plays : List ℕ) (are : ArePlays film plays) where
  abbrev at_work : ℕ → List ℕ → Bool
  at_work scene actors = nat_lt 0 (length (filter (λ actor. works film actor scene) actors))

  pub any_along : (acc scene : ℕ) (actors : List ℕ)
      → has (fold (λ set actor. union set (slice_index plays actor)) acc actors) scene ≡ (has acc scene || at_work scene actors)
  any_along acc scene [] = none (has acc scene)
    where
      none : (b : Bool) → b ≡ (b || false)
      none true = refl
      none false = refl
  any_along acc scene (x ∷ xs) = any_along (union acc (slice_index plays x)) scene xs
      ∙ ap (λ b. b || at_work scene xs) (has-union acc (slice_index plays x) scene ∙ ap (λ b. has acc scene || b) (are.each x scene))
      ∙ by_test (has acc scene) (works film x scene)
    where
      by_test : (a b : Bool) → ((a || b) || at_work scene xs)
          ≡ (a || nat_lt 0 (length (cond b (x ∷ filter (λ actor. works film actor scene) xs) (filter (λ actor. works film actor scene) xs))))
      by_test true b = refl
      by_test false true = sym (lt-ltb 0 (suc (length (filter (λ actor. works film actor scene) xs))) (omega arith))
      by_test false false = refl

  pub any_of : (actors scene : ℕ) → has (fold (λ set actor. union set (slice_index plays actor)) 0 (members actors)) scene ≡ works_any film actors scene
  any_of actors scene = any_along 0 scene (members actors) ∙ ap (λ b. b || works_any film actors scene) (has-empty scene)

  -- the days of the scenes with them and without another one
  pub days_of_others : (theirs set newcomer actors : ℕ) → ((scene : ℕ) → has theirs scene ≡ works_any film actors scene)
      → sum_over film.days (minus (meet theirs set) (slice_index plays newcomer))
      ≡ sum_by (slice_index film.days) (filter (λ scene. works_any film actors scene && not (works film newcomer scene)) (members set))
  days_of_others theirs set newcomer actors each =
      let days : ℕ → ℕ = slice_index film.days in
      let test : ℕ → Bool = λ scene. works_any film actors scene && not (works film newcomer scene) in
      sum_over_is film.days (minus (meet theirs set) (slice_index plays newcomer))
      ∙ sum_below-ext 64 (λ s. cond (has (minus (meet theirs set) (slice_index plays newcomer)) s) (days s) 0) (λ s. cond (has set s) (cond (test s) (days s) 0) 0) (λ s _.
      ap (λ t. cond t (days s) 0) (has-minus (meet theirs set) (slice_index plays newcomer) s
      ∙ (λ i. has-meet theirs set s i && not (are.each newcomer s i)) ∙ ap (λ b. (b && has set s) && not (works film newcomer s)) (each s))
      ∙ cases (works_any film actors s) (has set s) (not (works film newcomer s)) (days s))
      ∙ sym (sum_filter days test (members set)
      ∙ ap (sum_by (λ s. cond (test s) (days s) 0)) (members_is set)
      ∙ sum_kept (λ s. cond (test s) (days s) 0) (has set) 64)
    where
      cases : (x y z : Bool) (n : ℕ) → cond ((x && y) && z) n 0 ≡ cond y (cond (x && z) n 0) 0
      cases true true z n = refl
      cases true false z n = refl
      cases false true z n = refl
      cases false false z n = refl

-- ---- what a company is paid

-- one actor more: what all are paid stays small
pub pay_fits : (film : FilmData) (actors actor days pay : ℕ) (done rest left : List ℕ) → IsFilm film → done ++ rest ≡ members actors → rest ≡ actor ∷ left
    → days ≤ 19800 → pay ≤ 19800 * sum_by (slice_index film.holds) done → pay + slice_index film.holds actor * days < 9223372036854775808
pay_fits film actors actor days pay done rest left is turns next few small =
    let all : sum_by (slice_index film.holds) done + slice_index film.holds actor ≤ sum_over film.holds actors = turn_fits film.holds actors actor done rest left turns next in
    let most : sum_over film.holds actors ≤ 64000000000 = hold_limit film actors is in
    let here : slice_index film.holds actor * days ≤ slice_index film.holds actor * 19800 = mul-le-mul_left (slice_index film.holds actor) few in
    omega (arith, all, most, here, small)

pub pay_small : (film : FilmData) (actor days pay : ℕ) (done : List ℕ) → days ≤ 19800 → pay ≤ 19800 * sum_by (slice_index film.holds) done
    → pay + slice_index film.holds actor * days ≤ 19800 * sum_by (slice_index film.holds) (done ++ actor ∷ [])
pay_small film actor days pay done few small =
    let more : sum_by (slice_index film.holds) (done ++ actor ∷ []) ≡ sum_by (slice_index film.holds) done + sum_by (slice_index film.holds) (actor ∷ [])
    = sum_by-append (slice_index film.holds) done (actor ∷ []) in
    let here : slice_index film.holds actor * days ≤ slice_index film.holds actor * 19800 = mul-le-mul_left (slice_index film.holds actor) few in
    let one : sum_by (slice_index film.holds) (actor ∷ []) ≡ slice_index film.holds actor = omega (arith, sum_by-cons (slice_index film.holds) actor []) in
    omega (arith, more, one, here, small)

-- ---- the first of a list by falling value

take_twice : (n m : ℕ) (xs : List ℕ) → n ≤ m → take n (take m xs) ≡ take n xs
take_twice zero m xs fewer = refl
take_twice (suc n) zero xs fewer = absurd (omega (arith, fewer))
take_twice (suc n) (suc m) [] fewer = refl
take_twice (suc n) (suc m) (x ∷ xs) fewer = ap (λ (zs : List ℕ). x ∷ zs) (take_twice n m xs (omega (arith, fewer)))

pub take_again : (n : ℕ) (xs : List ℕ) → take n (take n xs) ≡ take n xs
take_again n xs = take_twice n n xs (omega arith)

module _ (value : ℕ → ℕ) where
  -- those behind the first so many don't come before them
  taken_placed : (n : ℕ) (ys : List ℕ) (x : ℕ) → take n (placed value (take n ys) x) ≡ take n (placed value ys x)
  taken_placed zero ys x = refl
  taken_placed (suc n) [] x = refl
  taken_placed (suc n) (y ∷ ys) x = by_test (taken_placed n ys x) (nat_lt (value y) (value x))
    where
      behind : (m : ℕ) → take m (y ∷ take m ys) ≡ take m (y ∷ ys)
      behind zero = refl
      behind (suc m) = ap (λ (zs : List ℕ). y ∷ zs) (take_twice m (suc m) ys (omega arith))

      front : (m : ℕ) → take m (y ∷ take n ys) ≡ take m (y ∷ ys) → take (suc m) (x ∷ y ∷ take n ys) ≡ take (suc m) (x ∷ y ∷ ys)
      front m same = ap (λ (zs : List ℕ). x ∷ zs) same

      by_test : take n (placed value (take n ys) x) ≡ take n (placed value ys x) → (b : Bool) → take (suc n) (cond b (x ∷ y ∷ take n ys) (y ∷ placed value (take n ys) x)) ≡ take (suc n) (cond b (x ∷ y ∷ ys) (y ∷ placed value ys x))
      by_test later true = front n (behind n)
      by_test later false = ap (λ (zs : List ℕ). y ∷ zs) later

  -- one number more
  pub first_more : (n : ℕ) (xs : List ℕ) (x : ℕ) → take n (placed value (take n (by_falling value xs)) x) ≡ take n (by_falling value (xs ++ x ∷ []))
  first_more n xs x = taken_placed n (by_falling value xs) x ∙ ap (take n) (sym (fold-append (placed value) [] xs (x ∷ [])))

-- values that agree on a list order it alike
module _ (value other : ℕ → ℕ) where
  placed_alike : (ys : List ℕ) (x : ℕ) → value x ≡ other x → ((y : ℕ) → Contains ys y → value y ≡ other y) → placed value ys x ≡ placed other ys x
  placed_alike [] x same agree = refl
  placed_alike (y ∷ ys) x same agree =
      (λ i. cond (nat_lt (agree y (contains_here y ys) i) (same i)) (x ∷ y ∷ ys) (y ∷ placed_alike ys x same (λ z there. agree z (contains_later y ys z there)) i))

  fold_alike : (acc xs : List ℕ) → ((y : ℕ) → Contains acc y → value y ≡ other y) → ((y : ℕ) → Contains xs y → value y ≡ other y)
      → fold (placed value) acc xs ≡ fold (placed other) acc xs
  fold_alike acc [] before agree = refl
  fold_alike acc (x ∷ xs) before agree =
      ap (λ (zs : List ℕ). fold (placed value) zs xs) (placed_alike acc x (agree x (contains_here x xs)) before)
      ∙ fold_alike (placed other acc x) xs (λ y there. elim (from_placed other acc x y there) [
        | inl new ↦ agree y (subst (Contains (x ∷ xs)) new (contains_here x xs))
        | inr old ↦ before y old
      ]) (λ y there. agree y (contains_later x xs y there))

  pub falls_alike : (xs : List ℕ) → ((y : ℕ) → Contains xs y → value y ≡ other y) → by_falling value xs ≡ by_falling other xs
  falls_alike xs agree = fold_alike [] xs (λ y none. absurd (contains_none y none)) agree
