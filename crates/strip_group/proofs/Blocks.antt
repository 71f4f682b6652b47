-- Sums over a set, twelve numbers at a time.
use Rattle.std.proofs.Common.{◌≡◌, ℕ, zero, suc, ◌+◌, ◌*◌, ◌/◌, ◌%◌, ◌^◌, ◌<◌, ◌≤◌, Bool, true, false, ◌&&◌, cond, eqb}
use Rattle.std.proofs.Common.{List, [], ◌∷◌, ◌++◌, drop, take, length, slice_index, slice_index_or, sum, refl, sym, ap, ◌∙◌, inl, inr, arith}
use Rattle.std.specs.Int.{bit_at}
use Rattle.std.proofs.Math.Nat.{pow-suc, div-div-eq-div-mul}
use Rattle.std.proofs.lemmas.Bool.{cases_lt, false_from_ne_true, cases_Bool}
use Rattle.std.proofs.lemmas.List.{get_or-drop, get_or_append_left, get_or-append-add, get_or_default, get_or_past, length-drop, take-append-drop}
use Rattle.std.proofs.lemmas.List.Sums.{sum_by-append}
use Rattle.std.proofs.lemmas.Nat.Bits.{bit_at-suc, bit_at_cat_low}
use Rattle.strip_mask.specs.Set.{IsSet, has, meet, sum_over, without}
use Rattle.strip_mask.specs.Sums.{sum_below}
use Rattle.strip_mask.proofs.Bits.{has_is}
use Rattle.strip_mask.proofs.ByMembers.{below_width, has-meet, same_has}
use Rattle.strip_mask.proofs.Sums.{sum_below-ext, sum_below-past, sum_below-suc, sum_below-take, sum_below-zero}
use Rattle.strip_mask.proofs.Totals.{sum_over-empty, sum_over_below, sum_over_within, sum_over-without, part, sum_over_le_sum}
use Rattle.strip_group.specs.Days.{AreSums, block_of}
use Rattle.strip_group.specs.Saved.{left_by}
use Rattle.strip_group.proofs.Left.{left_out, left_with}
use Rattle.strip_sets.proofs.Sets.{without_less}

-- ---- the numbers of a block

-- a number of bits further up
bit_at_up : (a k i : ℕ) → bit_at (a / 2 ^ k) i ≡ bit_at a (k + i)
bit_at_up a zero i = ap (λ (n : ℕ). bit_at n i) (let one : a / 2 ^ 0 ≡ a = omega arith in one) ∙ ap (bit_at a) (let same : i ≡ 0 + i = omega arith in same)
bit_at_up a (suc k) i =
    let more : a / 2 ^ suc k ≡ (a / 2) / 2 ^ k = ap (λ (n : ℕ). a / n) (let twice : 2 ^ suc k ≡ 2 * 2 ^ k = omega (arith, pow-suc 2 k) in twice) ∙ sym (div-div-eq-div-mul a 2
    (2 ^ k)) in
    ap (λ (n : ℕ). bit_at n i) more ∙ bit_at_up (a / 2) k i ∙ sym (bit_at-suc a (k + i)) ∙ ap (bit_at a) (let same : suc (k + i) ≡ suc k + i = omega arith in same)

pub has_block : (set number i : ℕ) → i < 12 → has (block_of set number) i ≡ has set (12 * number + i)
has_block set number i lt =
    let high : ℕ = set / 2 ^ (12 * number) in
    let whole : high ≡ high / 2 ^ 12 * 2 ^ 12 + high % 2 ^ 12 = omega arith in
    has_is (block_of set number) i ∙ ap (λ (b : ℕ). eqb b 1) (sym (ap (λ (n : ℕ). bit_at n i) whole ∙ bit_at_cat_low (high / 2 ^ 12) 12 (high % 2 ^ 12) i lt) ∙ bit_at_up set
    (12 * number) i)
    ∙ sym (has_is set (12 * number + i))

block_small : (set number : ℕ) → block_of set number < 2 ^ 12
block_small set number = omega arith

-- ---- sums by blocks

sum_below-append : (n m : ℕ) (f : ℕ → ℕ) → sum_below (n + m) f ≡ sum_below n f + sum_below m (λ i. f (n + i))
sum_below-append n zero f = (let same : n + 0 ≡ n = omega arith in ap (λ (k : ℕ). sum_below k f) same) ∙ (let none = sum_below-zero (λ i. f (n + i)) in omega (arith, none))
sum_below-append n (suc m) f =
    let next : n + suc m ≡ suc (n + m) = omega arith in
    let before : sum_below (n + m) f ≡ sum_below n f + sum_below m (λ i. f (n + i)) = sum_below-append n m f in
    ap (λ (k : ℕ). sum_below k f) next ∙ sum_below-suc (n + m) f ∙ omega (arith, before, sum_below-suc m (λ i. f (n + i)))

-- the sum over a block
pub block_sum : (values : List ℕ) (set number : ℕ) → sum_over (drop (12 * number) values) (block_of set number) ≡ sum_below 12 (λ i. part values set (12 * number + i))
block_sum values set number =
    sum_over_below (drop (12 * number) values) (block_of set number) 12 (omega arith) (λ i there. below_width (block_of set number) 12 i (block_small set number) there)
    ∙ sum_below-ext 12 (λ i. cond {A = ℕ} (has (block_of set number) i) (slice_index (drop (12 * number) values) i) 0) (λ i. part values set (12 * number + i)) (λ i lt.
    ap (λ (b : Bool). cond {A = ℕ} b (slice_index (drop (12 * number) values) i) 0) (has_block set number i lt)
    ∙ ap (λ (x : ℕ). cond {A = ℕ} (has set (12 * number + i)) x 0) (get_or-drop (12 * number) values i 0))

-- a block more
pub block_more : (values : List ℕ) (set number sum : ℕ) → sum ≡ sum_below (12 * number) (part values set)
    → sum + sum_over (drop (12 * number) values) (block_of set number) ≡ sum_below (12 * (number + 1)) (part values set)
block_more values set number sum so_far =
    let next : 12 * (number + 1) ≡ 12 * number + 12 = omega arith in
    let more : sum_below (12 * number + 12) (part values set) ≡ sum_below (12 * number) (part values set) + sum_below 12 (λ i. part values set
    (12 * number + i)) = sum_below-append (12 * number) 12 (part values set) in
    omega (arith, so_far, block_sum values set number, more, ap (λ (k : ℕ). sum_below k (part values set)) next)

-- all blocks
pub blocks_all : (values : List ℕ) (set count : ℕ) → length values ≤ 64 → length values ≤ 12 * count → sum_below (12 * count) (part values set) ≡ sum_over values set
blocks_all values set count short whole =
    sum_below-past (length values) (12 * count) (part values set) whole (λ i from _. none (has set i) (slice_index values i) (get_or_past values i 0 from))
    ∙ sym (sum_over_within values set (length values) short (omega arith))
  where
    none : (b : Bool) (x : ℕ) → x ≡ 0 → cond {A = ℕ} b x 0 ≡ 0
    none true x is = is
    none false x is = refl

pub block_none : (values : List ℕ) (set : ℕ) → 0 ≡ sum_below (12 * 0) (part values set)
block_none values set = sym (sum_below-zero (part values set))

-- ---- a table, set by set

-- the sum over a set is within that over all
pub drop_sum : (values : List ℕ) (first set most : ℕ) → length values ≤ 64 → sum values ≤ most → sum_over (drop first values) set ≤ most
drop_sum values first set most short small =
    let shorter : length (drop first values) ≤ 64 = omega (arith, length-drop first values, short) in
    let rest : sum (take first values) + sum (drop first values) ≡ sum values = sym (sum_by-append (λ x. x) (take first values) (drop first values)) ∙ ap sum
    (take-append-drop first values) in
    omega (arith, sum_over_le_sum (drop first values) set shorter, rest, small)

-- the sum of the first values is within that of all
pub begun_sum : (values : List ℕ) (n : ℕ) → sum_below n (slice_index values) ≤ sum values
begun_sum values n =
    let rest : sum (take n values) + sum (drop n values) ≡ sum values = sym (sum_by-append (λ x. x) (take n values) (drop n values)) ∙ ap sum (take-append-drop n values) in
    omega (arith, sum_below-take values n, rest)

-- of the set with one number more
pub table_next : (values : List ℕ) (first set scene : ℕ) (table : List ℕ) (day : ℕ) → IsSet set → has set scene ≡ true → day ≡ slice_index values (first + scene)
    → ((less : ℕ) → less < set → slice_index table less ≡ sum_over (drop first values) less) → slice_index table (without set scene) + day ≡ sum_over (drop first values) set
table_next values first set scene table day small there is told =
    let before = told (without set scene) (without_less set scene there) in
    omega (arith, before, is, get_or-drop first values scene 0, sum_over-without (drop first values) set scene small there)

pub table_none : (values : List ℕ) (first set : ℕ) → set < 1 → 0 ≡ sum_over (drop first values) set
table_none values first set lt = (let none : set ≡ 0 = omega (arith, lt) in sym (ap (sum_over (drop first values)) none ∙ sum_over-empty (drop first values)))

-- a table more
pub tables_more : (values : List ℕ) (tables : List (List ℕ)) (table : List ℕ) (count : ℕ) → length tables ≡ count
    → ((number set : ℕ) → number < count → set < 4096 → slice_index (slice_index_or tables number []) set ≡ sum_over (drop (12 * number) values) set)
    → ((set : ℕ) → set < 4096 → slice_index table set ≡ sum_over (drop (12 * count) values) set)
    → (number set : ℕ) → number < count + 1 → set < 4096 → slice_index (slice_index_or (tables ++ table ∷ []) number []) set ≡ sum_over (drop (12 * number) values) set
tables_more values tables table count long each last number set lt small = elim (cases_lt number count) [
  | inl before ↦ ap (λ (t : List ℕ). slice_index t set) (get_or_append_left tables (table ∷ []) [] number (omega (arith, before, long))) ∙ each number set before small
  | inr past ↦ (
      let is : number ≡ length tables + 0 = omega (arith, past, lt, long) in
      ap (λ (k : ℕ). slice_index (slice_index_or (tables ++ table ∷ []) k []) set) is ∙ ap (λ (t : List ℕ). slice_index t set) (get_or-append-add tables (table ∷ []) 0 [])
      ∙ last set small ∙ ap (λ (k : ℕ). sum_over (drop (12 * k) values) set) (let back : count ≡ number = omega (arith, is, long) in back))
]

-- an entry of a table
pub entry_is : (values : List ℕ) (tables : List (List ℕ)) (sums : AreSums values tables) (table : List ℕ) (number set block : ℕ) → number < length tables
    → table ≡ slice_index_or tables number table → block ≡ block_of set number → slice_index table block ≡ sum_over (drop (12 * number) values) (block_of set number)
entry_is values tables sums table number set block lt is block_is =
    ap (λ (t : List ℕ). slice_index t block) (is ∙ get_or_default tables number table [] lt) ∙ ap (slice_index (slice_index_or tables number [])) block_is
    ∙ sums.each number (block_of set number) lt (omega (arith, block_small set number))

-- ---- what is left, twelve scenes at a time

block_meet : (a b number : ℕ) → meet (block_of a number) (block_of b number) ≡ block_of (meet a b) number
block_meet a b number = same_has (meet (block_of a number) (block_of b number)) (block_of (meet a b) number) (λ i. has-meet (block_of a number) (block_of b number) i ∙ elim
    (cases_lt i 12) [
      | inl lt ↦ ap (λ (x : Bool). x && has (block_of b number) i) (has_block a number i lt) ∙ ap (λ (x : Bool). has a (12 * number + i) && x) (has_block b number i lt)
          ∙ sym (has_block (meet a b) number i lt ∙ has-meet a b (12 * number + i))
      | inr past ↦ ap (λ (x : Bool). x && has (block_of b number) i) (none a i past) ∙ sym (none (meet a b) i past)
    ])
  where
    none : (a i : ℕ) → 12 ≤ i → has (block_of a number) i ≡ false
    none a i past = false_from_ne_true (has (block_of a number) i) (λ there. omega (arith, past, below_width (block_of a number) 12 i (block_small a number) there))

pub block_left : (stays blocks : List ℕ) (number n set scenes : ℕ) → ((place : ℕ) → place < n → slice_index blocks place ≡ block_of (slice_index stays place) number)
    → left_by blocks n set (block_of scenes number) ≡ block_of (left_by stays n set scenes) number
block_left stays blocks number zero set scenes same = refl
block_left stays blocks number (suc n) set scenes same = elim (cases_Bool (has set n)) [
  | inl there ↦ left_with blocks n set (block_of scenes number) there
      ∙ ap (left_by blocks n set) (ap (meet (block_of scenes number)) (same n (omega arith)) ∙ block_meet scenes (slice_index stays n) number)
      ∙ block_left stays blocks number n set (meet scenes (slice_index stays n)) (λ place lt. same place (omega (arith, lt))) ∙ ap (λ (s : ℕ). block_of s number) (sym
      (left_with stays n set scenes there))
  | inr missing ↦ left_out blocks n set (block_of scenes number) missing ∙ block_left stays blocks number n set scenes (λ place lt. same place (omega (arith, lt)))
      ∙ ap (λ (s : ℕ). block_of s number) (sym (left_out stays n set scenes missing))
]
