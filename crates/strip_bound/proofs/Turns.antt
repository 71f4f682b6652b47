-- Actors two by two and six by six, a turn at a time.
use Rattle.std.proofs.Common.{◌≡◌, ◌≢◌, ℕ, zero, suc, ◌+◌, ◌-◌, ◌<◌, ◌≤◌, List, [], ◌∷◌, length, take, drop, map, fold, inl, inr, refl, sym, ap, ◌∙◌, arith}
use Rattle.std.proofs.lemmas.Bool.{cases_Bool, cases_eq}
use Rattle.std.proofs.lemmas.List.Sums.{sum_by-cons}
use Rattle.strip_mask.specs.Set.{IsSet, LiesBelow, has, with, members, size}
use Rattle.strip_mask.proofs.ByMembers.{with_there}
use Rattle.strip_mask.proofs.Members.{has_from_members, members-empty}
use Rattle.strip_mask.proofs.Sizes.{empty_from_size, length-members, size-empty, size-with}
use Rattle.strip_model.specs.Film.{FilmData}
use Rattle.strip_group.specs.Group.{group_extra}
use Rattle.strip_bound.specs.Bounds.{by_six, by_six_from, group_data, groups_extra, pair_extra, pairs_extra, set_of}
use Rattle.strip_bound.proofs.Pieces.{contains_take, drop_no_longer, from_set_of}
use Rattle.std.proofs.Math.Seq.{take-nil}

-- a set of a number or more isn't empty
pub some_size : (set : ℕ) → 0 < size set → set ≢ 0
some_size set some none = let e : size set ≡ 0 = ap size none ∙ size-empty in omega (arith, e, some)

pub size_some : (set : ℕ) → IsSet set → set ≢ 0 → 0 < size set
size_some set is some = elim (cases_eq (size set) 0) [
  | inl none ↦ absurd (some (empty_from_size set is none))
  | inr more ↦ omega (arith, more)
]

-- ---- two by two

-- fewer than two add nothing
pub pairs_few : (film : FilmData) (set left : ℕ) → size left < 2 → pairs_extra film set (members left) ≡ 0
pairs_few film set left few = none (members left) (omega (arith, few, length-members left))
  where
    none : (xs : List ℕ) → length xs < 2 → pairs_extra film set xs ≡ 0
    none [] lt = refl
    none (a ∷ []) lt = refl
    none (a ∷ b ∷ xs) lt = absurd (omega (arith, lt))

pub size_begins : (set a rest : ℕ) → members set ≡ a ∷ members rest → size set ≡ 1 + size rest
size_begins set a rest begins = omega (arith, length-members set, length-members rest, ap length begins)

-- the first two, and those of the others
pairs_begin : (film : FilmData) (set left a b rest later : ℕ) → members left ≡ a ∷ members rest → members rest ≡ b ∷ members later
    → pairs_extra film set (members left) ≡ pair_extra film set a b + pairs_extra film set (members later)
pairs_begin film set left a b rest later first second = ap (pairs_extra film set) (first ∙ ap (λ (xs : List ℕ). a ∷ xs) second)

-- what was added, with two more
pub pairs_sum : (film : FilmData) (set left a b rest later sum extra total : ℕ) → members left ≡ a ∷ members rest → members rest ≡ b ∷ members later
    → extra ≡ pair_extra film set a b → sum + pairs_extra film set (members left) ≡ total
    → sum + extra + pairs_extra film set (members later) ≡ total
pairs_sum film set left a b rest later sum extra total first second here before =
    omega (arith, pairs_begin film set left a b rest later first second, here, before)

-- ---- the first six

-- one more of them
pub taken_more : (turn group number : ℕ) (xs rest : List ℕ) (whole : ℕ) → turn < 6 → xs ≡ number ∷ rest
    → fold with group (take (6 - turn) xs) ≡ whole → fold with (with group number) (take (6 - (turn + 1)) rest) ≡ whole
taken_more turn group number xs rest whole lt begins was =
    let one : 6 - turn ≡ suc (6 - (turn + 1)) = omega (arith, lt) in
    sym (ap (λ (k : ℕ). fold with group (take k xs)) one ∙ ap (λ (ys : List ℕ). fold with group (take (suc (6 - (turn + 1))) ys)) begins) ∙ was

pub dropped_more : (turn number : ℕ) (xs rest whole : List ℕ) → turn < 6 → xs ≡ number ∷ rest
    → drop (6 - turn) xs ≡ whole → drop (6 - (turn + 1)) rest ≡ whole
dropped_more turn number xs rest whole lt begins was =
    let one : 6 - turn ≡ suc (6 - (turn + 1)) = omega (arith, lt) in
    sym (ap (λ (k : ℕ). drop k xs) one ∙ ap (λ (ys : List ℕ). drop (suc (6 - (turn + 1))) ys) begins) ∙ was

-- of an empty set none is left to take
pub taken_all : (n group left whole : ℕ) → left ≡ 0 → fold with group (take n (members left)) ≡ whole → group ≡ whole
taken_all n group left whole none was = sym (ap (λ (xs : List ℕ). fold with group (take n xs)) (ap members none ∙ members-empty) ∙ ap (fold with group) (take-nil n)) ∙ was

pub dropped_all : (n left : ℕ) (whole : List ℕ) → left ≡ 0 → drop n (members left) ≡ whole → members left ≡ whole
dropped_all n left whole none was =
    let empty : members left ≡ [] = ap members none ∙ members-empty in
    empty ∙ sym (ap (drop n) empty ∙ none_dropped n) ∙ was
  where
    none_dropped : (n : ℕ) → drop {A = ℕ} n [] ≡ []
    none_dropped zero = refl
    none_dropped (suc n) = refl

-- a number more
pub size_with_most : (set i : ℕ) → i < 64 → size (with set i) ≤ size set + 1
size_with_most set i known = elim (cases_Bool (has set i)) [
  | inl there ↦ omega (arith, ap size (with_there set i there))
  | inr absent ↦ omega (arith, size-with set i known absent)
]

-- ---- six by six

-- the pieces don't go by how many there may be
by_six_enough : (n m : ℕ) (xs : List ℕ) → length xs ≤ n → length xs ≤ m → by_six_from n xs ≡ by_six_from m xs
by_six_enough zero zero xs le_n le_m = refl
by_six_enough zero (suc m) [] le_n le_m = refl
by_six_enough zero (suc m) (x ∷ xs) le_n le_m = absurd (omega (arith, le_n))
by_six_enough (suc n) zero [] le_n le_m = refl
by_six_enough (suc n) zero (x ∷ xs) le_n le_m = absurd (omega (arith, le_m))
by_six_enough (suc n) (suc m) [] le_n le_m = refl
by_six_enough (suc n) (suc m) (x ∷ xs) le_n le_m =
    ap (λ (pieces : List (List ℕ)). take 6 (x ∷ xs) ∷ pieces)
    (by_six_enough n m (drop 5 xs) (omega (arith, drop_no_longer 5 xs, le_n)) (omega (arith, drop_no_longer 5 xs, le_m)))

-- the first group, and those of the others
groups_begin : (film : FilmData) (set : ℕ) (xs : List ℕ) → 0 < length xs
    → groups_extra film set (map set_of (by_six xs)) ≡ group_extra (group_data film) set (set_of (take 6 xs)) + groups_extra film set (map set_of (by_six (drop 6 xs)))
groups_begin film set [] some = absurd (omega (arith, some))
groups_begin film set (x ∷ xs) some =
    sum_by-cons (group_extra (group_data film) set) (set_of (take 6 (x ∷ xs))) (map set_of (by_six_from (length xs) (drop 5 xs)))
    ∙ ap (λ (pieces : List (List ℕ)). group_extra (group_data film) set (set_of (take 6 (x ∷ xs))) + groups_extra film set (map set_of pieces))
    (by_six_enough (length xs) (length (drop 5 xs)) (drop 5 xs) (drop_no_longer 5 xs) (omega arith))

groups_more : (film : FilmData) (set left group rest : ℕ) → 0 < size left → group ≡ set_of (take 6 (members left)) → members rest ≡ drop 6 (members left)
    → groups_extra film set (map set_of (by_six (members left))) ≡ group_extra (group_data film) set group + groups_extra film set (map set_of (by_six (members rest)))
groups_more film set left group rest some taken dropped =
    groups_begin film set (members left) (omega (arith, some, length-members left))
    ∙ sym (ap (λ (g : ℕ). group_extra (group_data film) set g + groups_extra film set (map set_of (by_six (members rest)))) taken
    ∙ ap (λ (xs : List ℕ). group_extra (group_data film) set (set_of (take 6 (members left))) + groups_extra film set (map set_of (by_six xs))) dropped)

-- what was added, with one group more
pub groups_sum : (film : FilmData) (set left group rest sum extra total : ℕ) → 0 < size left → group ≡ set_of (take 6 (members left)) → members rest ≡ drop 6 (members left)
    → extra ≡ group_extra (group_data film) set group → sum + groups_extra film set (map set_of (by_six (members left))) ≡ total
    → sum + extra + groups_extra film set (map set_of (by_six (members rest))) ≡ total
groups_sum film set left group rest sum extra total some taken dropped here before =
    omega (arith, groups_more film set left group rest some taken dropped, here, before)

pub groups_none : (film : FilmData) (set left : ℕ) → left ≡ 0 → groups_extra film set (map set_of (by_six (members left))) ≡ 0
groups_none film set left none = ap (λ (xs : List ℕ). groups_extra film set (map set_of (by_six xs))) (ap members none ∙ members-empty)

-- fewer remain
pub fewer_left : (left rest : ℕ) → 0 < size left → members rest ≡ drop 6 (members left) → size rest < size left
fewer_left left rest some dropped =
    let fewer : length (drop 6 (members left)) < length (members left) = shorter (members left) (omega (arith, some, length-members left)) in
    omega (arith, fewer, length-members left, length-members rest, ap length dropped)
  where
    shorter : (xs : List ℕ) → 0 < length xs → length (drop 6 xs) < length xs
    shorter [] lt = absurd (omega (arith, lt))
    shorter (x ∷ xs) lt = omega (arith, drop_no_longer 5 xs)

-- the group is of the set
pub group_within : (n left group : ℕ) → group ≡ set_of (take 6 (members left)) → LiesBelow n left → LiesBelow n group
group_within n left group taken lies i there =
    lies i (has_from_members left i (contains_take 6 (members left) i (from_set_of (take 6 (members left)) i (sym (ap (λ (g : ℕ). has g i) taken) ∙ there))))
