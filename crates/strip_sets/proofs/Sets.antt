-- Sets of a few places, as masks of as many bits.
use Rattle.std.proofs.Common.{◌≡◌, ◌≢◌, ℕ, zero, suc, List, slice_index, bit_or, ◌+◌, ◌*◌, ◌-◌, ◌%◌, ◌^◌, ◌<◌, ◌≤◌, Bool, true, false, not, cond, eqb, bit_and}
use Rattle.std.proofs.Common.{◌&&◌, ◌||◌, sym, ap, ◌∙◌, subst, inl, inr, arith, pow_pos}
use Rattle.std.proofs.lemmas.Bool.{cases_eq, false≢true, cases_Bool, false_from_ne_true}
use Rattle.std.proofs.lemmas.Bool.Decides.{nat_tests}
use Rattle.std.proofs.lemmas.Nat.{or_lt, pow_below, le_or_l, and_le_r}
use Rattle.strip_mask.specs.Set.{LiesBelow, full, has, meet, sum_over, union, with, without}
use Rattle.strip_mask.proofs.Totals.{sum_over-with, sum_over_mono}
use Rattle.std.specs.Int.Bits.{or_shifted_r}
use Rattle.strip_mask.proofs.ByMembers.{below_width, has-meet, has-with_same, has-with, has-without, has-without_same}
use Rattle.strip_mask.proofs.ByMembers.{has_from_without, same_has, with-without, without-with, without_absent}
use Rattle.strip_mask.proofs.Below.{LiesBelow-full, full-zero, full-more, has_full}
use Rattle.strip_sets.specs.Numbers.{halves}
use Rattle.strip_mask.proofs.Agree.{and_implied}

-- ---- sets of a few numbers, as masks of as many bits

pub with_small : (n set i : ℕ) → set < 2 ^ n → i < n → with set i < 2 ^ n
unfolding with union
with_small n set i small lt = or_lt n set (2 ^ i) small (pow_below i n lt)

pub one_small : (n i : ℕ) → i < n → with 0 i < 2 ^ n
one_small n i lt = with_small n 0 i (pow_above n) lt
  where
    pow_above : (n : ℕ) → 0 < 2 ^ n
    pow_above n = pow_pos n

with_more : (set i : ℕ) → set ≤ with set i
unfolding with union
with_more set i = le_or_l set (2 ^ i)

pub without_less : (set i : ℕ) → has set i ≡ true → without set i < set
without_less set i there =
    let most : without set i ≤ set = subst (λ (n : ℕ). without set i ≤ n) (with-without set i there) (with_more (without set i) i) in
    elim (cases_eq (without set i) set) [
      | inl same ↦ absurd (false≢true (sym (has-without_same set i) ∙ ap (λ (s : ℕ). has s i) same ∙ there))
      | inr other ↦ omega (arith, most, other)
    ]

pub without_most : (set i : ℕ) → without set i ≤ set
without_most set i = elim (cases_Bool (has set i)) [
  | inl there ↦ (let less : without set i < set = without_less set i there in omega (arith, less))
  | inr missing ↦ (let same : without set i ≡ set = without_absent set i missing in omega (arith, same))
]

pub full_small : (n most : ℕ) → n ≤ most → full n < 2 ^ most
full_small zero most le = subst (λ (s : ℕ). s < 2 ^ most) (sym full-zero) (pow_pos most)
full_small (suc n) most le =
    let more : suc n ≡ n + 1 = omega arith in
    subst (λ (s : ℕ). s < 2 ^ most) (sym (ap full more ∙ full-more n)) (with_small most (full n) n (full_small n most (omega (arith, le))) (omega (arith, le)))

pub lies_small : (n set : ℕ) → LiesBelow n set → set < 2 ^ n
unfolding meet
lies_small n set lies =
    let same : set ≡ bit_and set (full n) = same_has set (meet set (full n)) (λ i. and_implied (has set i) (has (full n) i) (λ there. has_full n i (lies i there)) ∙ sym
    (has-meet set (full n) i)) in
    omega (arith, same, and_le_r set (full n), full_small n n (omega arith))

-- ---- sets of one place more

pub without_top : (n set : ℕ) → set < 2 ^ suc n → without set n < 2 ^ n
without_top n set small = lies_small n (without set n) (λ i there. (let parts = has_from_without set n i there in
    let lt : i < suc n = below_width set (suc n) i small parts.1 in omega (arith, lt, parts.0)))

pub below_top : (n set : ℕ) → set < 2 ^ suc n → has set n ≡ false → set < 2 ^ n
below_top n set small missing = lies_small n set (λ i there. (let lt : i < suc n = below_width set (suc n) i small there in elim (cases_eq n i) [
  | inl same ↦ absurd (false≢true (sym missing ∙ ap (has set) same ∙ there))
  | inr other ↦ omega (arith, lt, other)
]))

pub lacks_top : (n set : ℕ) → set < 2 ^ n → has set n ≡ false
lacks_top n set small = false_from_ne_true (has set n) (λ there. omega (arith, below_width set n n small there))

pub halves_with : (n : ℕ) (f g : ℕ → ℕ) (set : ℕ) → has set n ≡ true → halves n f g set ≡ g (without set n)
halves_with n f g set there = ap (λ (b : Bool). cond {A = ℕ} b (g (without set n)) (f set)) there

pub halves_out : (n : ℕ) (f g : ℕ → ℕ) (set : ℕ) → has set n ≡ false → halves n f g set ≡ f set
halves_out n f g set missing = ap (λ (b : Bool). cond {A = ℕ} b (g (without set n)) (f set)) missing

-- at a set below, with this place
pub halves_at : (n : ℕ) (f g : ℕ → ℕ) (set : ℕ) → set < 2 ^ n → halves n f g (with set n) ≡ g set
halves_at n f g set small = halves_with n f g (with set n) (has-with_same set n) ∙ ap g (without-with set n (lacks_top n set small))

pub with_top : (n set : ℕ) → set < 2 ^ n → with set n < 2 ^ suc n
with_top n set small = with_small (suc n) set n (wider n set small) (omega arith)
  where
    wider : (n set : ℕ) → set < 2 ^ n → set < 2 ^ suc n
    wider n set lt = lies_small (suc n) set (λ i there. (let below : i < n = below_width set n i lt there in omega (arith, below)))

pub wider_top : (n set : ℕ) → set < 2 ^ n → set < 2 ^ suc n
wider_top n set lt = lies_small (suc n) set (λ i there. (let below : i < n = below_width set n i lt there in omega (arith, below)))

-- one number in, another one out
pub without_with : (set i j : ℕ) → j ≢ i → without (with set i) j ≡ with (without set j) i
without_with set i j other = same_has (without (with set i) j) (with (without set j) i) (λ k. has-without (with set i) j k ∙ ap (λ (b : Bool). not (eqb j k) && b)
    (has-with set i k)
    ∙ elim (cases_eq i k) [
      | inl is ↦ (let t : eqb j k ≡ false = grind (arith, nat_tests) in let s : eqb i k ≡ true = grind (arith, nat_tests) in
          ap (λ (b : Bool). not b && (eqb i k || has set k)) t ∙ ap (λ (b : Bool). b || has set k) s ∙ sym (ap (λ (b : Bool). b || has (without set j) k) s))
      | inr apart ↦ (let s : eqb i k ≡ false = grind (arith, nat_tests) in
          ap (λ (b : Bool). not (eqb j k) && (b || has set k)) s ∙ sym (has-without set j k) ∙ sym (ap (λ (b : Bool). b || has (without set j) k) s))
    ] ∙ sym (has-with (without set j) i k))

-- ---- numbers of all sets by those of the parts

module _ (n : ℕ) (f g : ℕ → ℕ) where
  pub halves_full : halves n f g (full (suc n)) ≡ g (full n)
  halves_full = (let next : suc n ≡ n + 1 = omega arith in ap (λ (k : ℕ). halves n f g (full k)) next) ∙ ap (halves n f g) (full-more n) ∙ halves_at n f g (full n)
      (lies_small n (full n) (LiesBelow-full n))

  -- a fact of each number
  pub by_parts : (P : ℕ → ℕ → Type 0) → ((set : ℕ) → set < 2 ^ n → has set n ≡ false → P set (f set)) → ((set : ℕ) → set < 2 ^ suc n → has set n ≡ true → P set (g (without set n)))
      → (set : ℕ) → set < 2 ^ suc n → P set (halves n f g set)
  by_parts P out in_it set small = elim (cases_Bool (has set n)) [
    | inl there ↦ subst (P set) (sym (halves_with n f g set there)) (in_it set small there)
    | inr missing ↦ subst (P set) (sym (halves_out n f g set missing)) (out set (below_top n set small missing) missing)
  ]

  -- and of those of the parts
  pub in_out : (P : ℕ → Type 0) → ((set : ℕ) → set < 2 ^ suc n → P (halves n f g set)) → (set : ℕ) → set < 2 ^ n → P (f set)
  in_out P each set small = subst P (halves_out n f g set (lacks_top n set small)) (each set (wider_top n set small))

  pub in_in : (P : ℕ → Type 0) → ((set : ℕ) → set < 2 ^ suc n → P (halves n f g set)) → (set : ℕ) → set < 2 ^ n → P (g set)
  in_in P each set small = subst P (halves_at n f g set small) (each (with set n) (with_top n set small))

-- ---- sets as numbers

-- one more place, as a number
pub with_is_more : (n set : ℕ) → set < 2 ^ n → with set n ≡ set + 2 ^ n
unfolding with union
with_is_more n set small =
    let same : bit_or set (1 * 2 ^ n) ≡ 1 * 2 ^ n + set = or_shifted_r 1 n set small in
    let one : 1 * 2 ^ n ≡ 2 ^ n = omega arith in
    ap (bit_or set) (sym one) ∙ same ∙ omega (arith, one)

module _ (n : ℕ) (f g : ℕ → ℕ) (set place : ℕ) (is : place ≡ 2 ^ n) (small : set < 2 ^ suc n) where
  pub at_low : set < place → halves n f g set ≡ f set
  at_low less = halves_out n f g set (lacks_top n set (omega (arith, less, is)))

  pub high_small : place ≤ set → set - place < 2 ^ n
  high_small more = (let double : 2 ^ suc n ≡ 2 ^ n + 2 ^ n = omega arith in omega (arith, small, double, more, is))

  pub at_high : place ≤ set → halves n f g set ≡ g (set - place)
  at_high more = (let back : with (set - place) n ≡ set = with_is_more n (set - place) (high_small more) ∙ omega (arith, more, is) in
      ap (halves n f g) (sym back) ∙ halves_at n f g (set - place) (high_small more))

-- ---- sums

module _ (numbers : List ℕ) (n : ℕ) (few : n < 64) where
  pub sum_full_more : sum_over numbers (full (suc n)) ≡ sum_over numbers (full n) + slice_index numbers n
  sum_full_more = (let next : suc n ≡ n + 1 = omega arith in ap (λ (k : ℕ). sum_over numbers (full k)) next) ∙ ap (sum_over numbers) (full-more n)
      ∙ sum_over-with numbers (full n) n few (lacks_top n (full n) (lies_small n (full n) (LiesBelow-full n)))

-- no more than that of all places
pub sum_most : (numbers : List ℕ) (n set : ℕ) → set < 2 ^ n → sum_over numbers set ≤ sum_over numbers (full n)
sum_most numbers n set small = sum_over_mono numbers set (full n) (λ i there. has_full n i (below_width set n i small there))

-- 1 shifted by the number of places
pub one_shifted : (n shift : ℕ) → shift ≡ n → n ≤ 10 → 1 * 2 ^ shift % 18446744073709551616 ≡ 2 ^ n
one_shifted n shift is few =
    let small : 2 ^ shift < 2 ^ 64 = pow_below shift 64 (omega (arith, is, few)) in
    let one : 1 * 2 ^ shift ≡ 2 ^ shift = omega arith in
    ap (λ x. x % 18446744073709551616) one ∙ kept (2 ^ shift) small ∙ ap (λ k. 2 ^ k) is
  where
    kept : (a : ℕ) → a < 18446744073709551616 → a % 18446744073709551616 ≡ a
    kept a less = omega (arith, less)
