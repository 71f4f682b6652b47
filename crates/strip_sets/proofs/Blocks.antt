-- Numbers in lists of blocks.
use Rattle.std.proofs.Common.{◌≡◌, ◌≢◌, ℕ, ◌+◌, ◌*◌, ◌-◌, ◌^◌, ◌/◌, ◌%◌, ◌<◌, ◌≤◌, ◌==◌, Bool, false, cond, List, ◌++◌, drop, length, take, map, slice_index, slice_index_or, slice_set, sym, ap, ◌∙◌, subst, inl, inr, arith, pow_pos}
use Rattle.std.proofs.lemmas.Bool.{cases_eq}
use Rattle.std.proofs.lemmas.Bool.Decides.{nat_tests}
use Rattle.std.proofs.lemmas.List.{get_or-map, get_or-set_other, get_or-set_same, get_or_append_left, get_or-append-add, length-drop, length-map, length-take, map-append, map-set, take-append-drop, take_all}
use Rattle.std.proofs.lemmas.Nat.{div-add-mod', div-mul-add, mod-mul-add, mod_below, mul-le, pow-add}
use Rattle.std.proofs.Math.Nat.{div-lt_iff_lt-mul, mul-add-div_right, mul-add-mod_self_right, zero-div}
use Rattle.strip_sets.specs.Numbers.{counted, in_block, number}
use Rattle.strip_sets.proofs.Parts.{counted_other, counted_same}
use Rattle.strip_sets.proofs.Saving.{AreParts, IsSplit}
use Rattle.strip_sets.proofs.Sets.{with_is_more}

pub quotient_less : (set size blocks : ℕ) → 0 < size → set < blocks * size → set / size < blocks
quotient_less set size blocks some small = (div-lt_iff_lt-mul some).1 small

-- ---- numbers of blocks

-- how many sets they have
pub sets_of : (long higher places : ℕ) → long ≡ 2 ^ higher → long * 2 ^ places ≡ 2 ^ (higher + places)
sets_of long higher places is = ap (λ (k : ℕ). k * 2 ^ places) is ∙ sym (pow-add 2 higher places)

-- a whole is twice a half
pub doubled : (higher : ℕ) → higher ≢ 0 → 2 ^ higher ≡ 2 ^ (higher - 1) + 2 ^ (higher - 1)
doubled higher some =
    let next : 2 ^ (higher - 1 + 1) ≡ 2 ^ (higher - 1) * 2 ^ 1 = pow-add 2 (higher - 1) 1 in
    let same : 2 ^ (higher - 1 + 1) ≡ 2 ^ higher = ap (λ (k : ℕ). 2 ^ k) (omega (arith, some)) in
    omega (arith, next, same)

pub half_length : (long higher : ℕ) → long ≡ 2 ^ higher → higher ≢ 0 → long / 2 ≡ 2 ^ (higher - 1)
half_length long higher is some = omega (arith, is, doubled higher some)

-- ---- a fact of each set, by blocks

module _ (places blocks : ℕ) (P : ℕ → ℕ → Type 0) where
  pub of_block : ((set : ℕ) → set < blocks * 2 ^ places → P (set / 2 ^ places) (set % 2 ^ places)) → (block set : ℕ) → block < blocks → set < 2 ^ places → P block set
  of_block each block set known small =
      let more : (block + 1) * 2 ^ places ≤ blocks * 2 ^ places = mul-le (block + 1) (2 ^ places) blocks (2 ^ places) (omega (arith, known)) (omega arith) in
      let next : (block + 1) * 2 ^ places ≡ block * 2 ^ places + 2 ^ places = grind arith in
      subst (λ (b : ℕ). P b set) (div-mul-add block (2 ^ places) set small)
      (subst (P ((block * 2 ^ places + set) / 2 ^ places)) (mod-mul-add block (2 ^ places) set small) (each (block * 2 ^ places + set) (omega (arith, more, next, small))))

  pub of_set : ((block set : ℕ) → block < blocks → set < 2 ^ places → P block set) → (set : ℕ) → set < blocks * 2 ^ places → P (set / 2 ^ places) (set % 2 ^ places)
  of_set each set small = each (set / 2 ^ places) (set % 2 ^ places) (quotient_less set (2 ^ places) blocks (pow_pos places) small) (mod_below set (2 ^ places) (pow_pos places))

-- ---- blocks of a list

module _ {B : Type 0} (value : B → ℕ → ℕ) where
  pub value_at : (blocks : List B) (block set : ℕ) (other : B) → block < length blocks → in_block value blocks block set ≡ value (slice_index_or blocks block other) set
  value_at blocks block set other known = get_or-map (λ (one : B). value one set) blocks block other 0 known

  pub set_same : (blocks : List B) (block set : ℕ) (new : B) → block < length blocks → in_block value (slice_set blocks block new) block set ≡ value new set
  set_same blocks block set new known = ap (λ (l : List ℕ). slice_index l block) (map-set (λ (one : B). value one set) blocks block new)
      ∙ get_or-set_same (map (λ (one : B). value one set) blocks) block (value new set) 0 (let long : length (map (λ (one : B). value one set) blocks) ≡ length blocks
      = length-map blocks (λ (one : B). value one set) in omega (arith, long, known))

  pub set_other : (blocks : List B) (block other set : ℕ) (new : B) → other ≢ block → in_block value (slice_set blocks block new) other set ≡ in_block value blocks other set
  set_other blocks block other set new apart = ap (λ (l : List ℕ). slice_index l other) (map-set (λ (one : B). value one set) blocks block new)
      ∙ get_or-set_other (map (λ (one : B). value one set) blocks) block other (value new set) 0 apart

  pub value_read : (blocks : List B) (block set : ℕ) (one : B) → block < length blocks → one ≡ slice_index_or blocks block one → in_block value blocks block set ≡ value one set
  value_read blocks block set one known is = value_at blocks block set one known ∙ ap (λ (b : B). value b set) (sym is)

  -- of two lists

  module _ (places : ℕ) (low high : List B) where
    pub number_low : (set : ℕ) → set < length low * 2 ^ places → number value places (low ++ high) set ≡ number value places low set
    number_low set small =
        let one : B → ℕ = λ b. value b (set % 2 ^ places) in
        let known : set / 2 ^ places < length low = quotient_less set (2 ^ places) (length low) (pow_pos places) small in
        ap (λ (l : List ℕ). slice_index l (set / 2 ^ places)) (map-append one low high)
        ∙ get_or_append_left (map one low) (map one high) 0 (set / 2 ^ places) (let long : length (map one low) ≡ length low = length-map low one in omega (arith, long, known))

    pub number_high : (set : ℕ) → number value places (low ++ high) (length low * 2 ^ places + set) ≡ number value places high set
    number_high set =
        let one : B → ℕ = λ b. value b (set % 2 ^ places) in
        (λ i. in_block value (low ++ high) (mul-add-div_right (pow_pos places) (length low) set i) (mul-add-mod_self_right (length low) (2 ^ places) set i))
        ∙ ap (λ (l : List ℕ). slice_index l (length low + set / 2 ^ places)) (map-append one low high)
        ∙ ap (λ (k : ℕ). slice_index (map one low ++ map one high) (k + set / 2 ^ places)) (sym (length-map low one))
        ∙ get_or-append-add (map one low) (map one high) (set / 2 ^ places) 0

    module _ (higher : ℕ) (long : length low ≡ 2 ^ higher) where
      split_number : IsSplit (higher + places) (number value places (low ++ high)) (number value places low) (number value places high)
      split_number = record {
        low = λ set lt. sym (number_low set (omega (arith, sets_of (length low) higher places long, lt)));
        high = λ set lt. sym (ap (number value places (low ++ high)) (with_is_more (higher + places) set lt ∙ omega (arith, sets_of (length low) higher places long))
            ∙ number_high set);
      }

  -- the first blocks, and the others

  module _ (places half : ℕ) (blocks : List B) (set : ℕ) (known : half ≤ length blocks) where
    whole : take half blocks ++ drop half blocks ≡ blocks
    whole = take-append-drop half blocks

    taken : length (take half blocks) ≡ half
    taken = length-take half blocks ∙ omega (arith, known)

    pub number_take : set < half * 2 ^ places → number value places (take half blocks) set ≡ number value places blocks set
    number_take small = sym (number_low places (take half blocks) (drop half blocks) set (subst (λ (k : ℕ). set < k * 2 ^ places) (sym taken) small))
        ∙ ap (λ (l : List B). number value places l set) whole

    pub number_drop : number value places (take (length blocks - half) (drop half blocks)) set ≡ number value places blocks (half * 2 ^ places + set)
    number_drop = ap (λ (l : List B). number value places l set) (take_all (length blocks - half) (drop half blocks) (let rest = length-drop half blocks in omega (arith, rest)))
        ∙ sym (number_high places (take half blocks) (drop half blocks) set)
        ∙ ap (λ (k : ℕ). number value places (take half blocks ++ drop half blocks) (k * 2 ^ places + set)) taken
        ∙ ap (λ (l : List B). number value places l (half * 2 ^ places + set)) whole

  pub split_blocks : (places higher : ℕ) (blocks low high : List B) → blocks ≡ low ++ high → length low ≡ 2 ^ higher
      → IsSplit (higher + places) (number value places blocks) (number value places low) (number value places high)
  split_blocks places higher blocks low high is long = subst (λ (l : List B). IsSplit (higher + places) (number value places l) (number value places low) (number value places high)) (sym is)
      (split_number places low high higher long)

  -- of one block
  pub first_block : (places : ℕ) (blocks : List B) (set : ℕ) → set < 2 ^ places → number value places blocks set ≡ in_block value blocks 0 set
  first_block places blocks set small =
      let none : 0 * 2 ^ places + set ≡ set = omega arith in
      let first : set / 2 ^ places ≡ 0 = ap (λ (s : ℕ). s / 2 ^ places) (sym none) ∙ div-mul-add 0 (2 ^ places) set small in
      let same : set % 2 ^ places ≡ set = ap (λ (s : ℕ). s % 2 ^ places) (sym none) ∙ mod-mul-add 0 (2 ^ places) set small in
      (λ i. in_block value blocks (first i) (same i))

  pub number_of_one : (places : ℕ) (blocks : List B) (other : B) (set : ℕ) → 0 < length blocks → set < 2 ^ places
      → number value places blocks set ≡ value (slice_index_or blocks 0 other) set
  number_of_one places blocks other set some small =
      first_block places blocks set small ∙ value_at blocks 0 set other some

  pub number_read : (places : ℕ) (blocks : List B) (one : B) (set : ℕ) → 0 < length blocks → one ≡ slice_index_or blocks 0 one → set < 2 ^ places
      → number value places blocks set ≡ value one set
  number_read places blocks one set some is small = first_block places blocks set small ∙ value_read blocks 0 set one some is

-- ---- one set, and the empty set

module _ {B : Type 0} (value : B → ℕ → ℕ) (places : ℕ) (blocks : List B) where
  whole_set : (set : ℕ) → set / 2 ^ places * 2 ^ places + set % 2 ^ places ≡ set
  whole_set set = div-add-mod' set (2 ^ places)

  pub added : (set more : ℕ) (new : B) → set < length blocks * 2 ^ places
      → ((other : ℕ) → other < 2 ^ places → value new other ≡ in_block value blocks (set / 2 ^ places) other + counted (other == set % 2 ^ places) more)
      → (other : ℕ) → other < length blocks * 2 ^ places
      → number value places (slice_set blocks (set / 2 ^ places) new) other ≡ number value places blocks other + counted (other == set) more
  added set more new known is other also = elim (cases_eq (other / 2 ^ places) (set / 2 ^ places)) [
    | inl same ↦ (
        let low : ℕ = other % 2 ^ places in
        let here : number value places (slice_set blocks (set / 2 ^ places) new) other ≡ value new low
        = ap (λ (k : ℕ). in_block value (slice_set blocks (set / 2 ^ places) new) k low) same
        ∙ set_same value blocks (set / 2 ^ places) low new (quotient_less set (2 ^ places) (length blocks) (pow_pos places) known) in
        let was : number value places blocks other ≡ in_block value blocks (set / 2 ^ places) low = ap (λ (k : ℕ). in_block value blocks k low) same in
        let count : counted (low == set % 2 ^ places) more ≡ counted (other == set) more = elim (cases_eq low (set % 2 ^ places)) [
          | inl equal ↦ counted_same low (set % 2 ^ places) more equal
              ∙ sym (counted_same other set more (sym (whole_set other) ∙ (λ i. same i * 2 ^ places + equal i) ∙ whole_set set))
          | inr apart ↦ counted_other low (set % 2 ^ places) more apart ∙ sym (counted_other other set more (λ equal. apart (ap (λ (k : ℕ). k % 2 ^ places) equal)))
        ] in
        omega (arith, here, was, count, is low (mod_below other (2 ^ places) (pow_pos places))))
    | inr apart ↦ (
        let here = set_other value blocks (set / 2 ^ places) (other / 2 ^ places) (other % 2 ^ places) new apart in
        omega (arith, here, counted_other other set more (λ equal. apart (ap (λ (k : ℕ). k / 2 ^ places) equal))))
  ]

  pub started : (first : B) (none others : ℕ) → 0 < length blocks → ((set : ℕ) → set < 2 ^ places → value first set ≡ cond {A = ℕ} (set == 0) none others)
      → ((set : ℕ) → set < length blocks * 2 ^ places → number value places blocks set ≡ others) → (set : ℕ) → set < length blocks * 2 ^ places
      → number value places (slice_set blocks 0 first) set ≡ cond {A = ℕ} (set == 0) none others
  started first none others some begins rest set small = elim (cases_eq (set / 2 ^ places) 0) [
    | inl zero_is ↦ (
        let low : ℕ = set % 2 ^ places in
        let same : low ≡ set = (let none_before : set / 2 ^ places * 2 ^ places ≡ 0 * 2 ^ places = ap (λ (k : ℕ). k * 2 ^ places) zero_is in
        omega (arith, whole_set set, none_before)) in
        ap (λ (k : ℕ). in_block value (slice_set blocks 0 first) k low) zero_is ∙ set_same value blocks 0 low first some
        ∙ begins low (mod_below set (2 ^ places) (pow_pos places)) ∙ ap (λ (k : ℕ). cond {A = ℕ} (k == 0) none others) same)
    | inr apart ↦ (
        let filled : set ≢ 0 = λ is. apart (ap (λ (k : ℕ). k / 2 ^ places) is ∙ zero-div (2 ^ places)) in
        let test : (set == 0) ≡ false = grind (arith, nat_tests) in
        set_other value blocks 0 (set / 2 ^ places) (set % 2 ^ places) first apart ∙ rest set small ∙ sym (ap (λ (b : Bool). cond {A = ℕ} b none others) test))
  ]

pub products_same : {a b x y : ℕ} → a ≡ x → b ≡ y → a * b ≡ x * y
products_same first second = (λ i. first i * second i)

-- ---- block after block

-- the blocks before this turn have their new numbers, the others have their first ones
pub record IsTurned (size turn : ℕ) (first made now : ℕ → ℕ → ℕ) : Type 0 where
  pub done : (block set : ℕ) → block < turn → set < size → now block set ≡ made block set
  pub left : (block set : ℕ) → turn ≤ block → now block set ≡ first block set

module _ {B : Type 0} (value : B → ℕ → ℕ) (size : ℕ) (first made : ℕ → ℕ → ℕ) where
  pub turned_more : (turn : ℕ) (blocks : List B) (new : B) → turn < length blocks → ((set : ℕ) → set < size → value new set ≡ made turn set)
      → IsTurned size turn first made (in_block value blocks) → IsTurned size (turn + 1) first made (in_block value (slice_set blocks turn new))
  turned_more turn blocks new known is was = record {
    done = λ block set less small. elim (cases_eq block turn) [
      | inl same ↦ subst (λ (b : ℕ). in_block value (slice_set blocks turn new) b set ≡ made b set) (sym same) (set_same value blocks turn set new known ∙ is set small)
      | inr other ↦ set_other value blocks turn block set new other ∙ was.done block set (omega (arith, less, other)) small
    ];
    left = λ block set more. set_other value blocks turn block set new (λ same. omega (arith, same, more)) ∙ was.left block set (omega (arith, more));
  }

-- behind the last turn
pub turned_all : (places blocks turn : ℕ) {first made now : ℕ → ℕ → ℕ} → blocks ≤ turn → IsTurned (2 ^ places) turn first made now → (set : ℕ) → set < blocks * 2 ^ places
    → now (set / 2 ^ places) (set % 2 ^ places) ≡ made (set / 2 ^ places) (set % 2 ^ places)
turned_all places blocks turn {first} {made} {now} past turned = of_set places blocks (λ (block set : ℕ). now block set ≡ made block set)
    (λ block set known small. turned.done block set (omega (arith, known, past)) small)

-- ---- half of the blocks

pub parts_of : (n sets : ℕ) {all out within : ℕ → ℕ → ℕ} → sets ≡ 2 ^ n → ((class set : ℕ) → set < sets → out class set ≡ all class set)
    → ((class set : ℕ) → within class set ≡ all class (sets + set)) → AreParts n all out within
parts_of n sets {all} {out} {within} is low high = record {
  low = λ class set lt. low class set (omega (arith, is, lt));
  high = λ class set lt. high class set ∙ ap (all class) (sym (with_is_more n set lt ∙ omega (arith, is)));
}
