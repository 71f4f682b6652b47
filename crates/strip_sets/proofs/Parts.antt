-- What is computed for the sets without a place and for those with it, and so for all.
use Rattle.std.proofs.Common.{◌≡◌, ◌≢◌, ℕ, zero, suc, ◌+◌, ◌-◌, ◌^◌, ◌<◌, ◌≤◌, ◌==◌, Bool, true, false, cond, List, [], ◌∷◌, length, slice_index, refl, sym, ap, ◌∙◌, subst, inl, inr, arith}
use Rattle.std.proofs.lemmas.Bool.{cases_eq, false≢true, cases_Bool}
use Rattle.std.proofs.lemmas.Bool.Decides.{nat_tests}
use Rattle.strip_mask.specs.Set.{full, has, sum_over, union, with, without}
use Rattle.strip_mask.proofs.ByMembers.{has-empty, has-without_other, has-without_same, with-without}
use Rattle.strip_mask.proofs.Below.{has_full}
use Rattle.strip_mask.proofs.Totals.{sum_over-with}
use Rattle.strip_sets.specs.Numbers.{counted, halves, sum_within}
use Rattle.strip_sets.proofs.Sets.{below_top, halves_at, halves_out, halves_with, lacks_top, sum_full_more, wider_top, with_is_more, with_top, without_top}
use Rattle.strip_sets.proofs.FourSets.{by_four}
use Rattle.strip_sets.proofs.Vectors.{sum_at, sum_lanes}
use lib.Lanes.{zip2}

-- ---- three numbers of each set

module _ (n : ℕ) (a b f g h k : ℕ → ℕ) where
  -- what is made of them
  pub each_half : (op : ℕ → ℕ → ℕ → ℕ) (r s : ℕ → ℕ) → ((set : ℕ) → set < 2 ^ n → r set ≡ op (a set) (f set) (h set)) → ((set : ℕ) → set < 2 ^ n → s set ≡ op (b set) (g set) (k set))
      → (set : ℕ) → set < 2 ^ suc n → halves n r s set ≡ op (halves n a b set) (halves n f g set) (halves n h k set)
  each_half op r s low high set small = elim (cases_Bool (has set n)) [
    | inl there ↦ halves_with n r s set there ∙ high (without set n) (without_top n set small)
        ∙ sym (λ i. op (halves_with n a b set there i) (halves_with n f g set there i) (halves_with n h k set there i))
    | inr missing ↦ halves_out n r s set missing ∙ low set (below_top n set small missing)
        ∙ sym (λ i. op (halves_out n a b set missing i) (halves_out n f g set missing i) (halves_out n h k set missing i))
  ]

  -- what is known of them
  module _ (P : ℕ → ℕ → ℕ → Type 0) (each : (set : ℕ) → set < 2 ^ suc n → P (halves n a b set) (halves n f g set) (halves n h k set)) where
    pub of_without : (set : ℕ) → set < 2 ^ n → P (a set) (f set) (h set)
    of_without set lt =
        let missing = lacks_top n set lt in
        subst (λ (x : ℕ). P x (f set) (h set)) (halves_out n a b set missing)
        (subst (λ (y : ℕ). P (halves n a b set) y (h set)) (halves_out n f g set missing)
        (subst (P (halves n a b set) (halves n f g set)) (halves_out n h k set missing) (each set (wider_top n set lt))))

    pub of_with : (set : ℕ) → set < 2 ^ n → P (b set) (g set) (k set)
    of_with set lt =
        subst (λ (x : ℕ). P x (g set) (k set)) (halves_at n a b set lt)
        (subst (λ (y : ℕ). P (halves n a b (with set n)) y (k set)) (halves_at n f g set lt)
        (subst (P (halves n a b (with set n)) (halves n f g (with set n))) (halves_at n h k set lt) (each (with set n) (with_top n set lt))))

-- five numbers of each set, and what is made of them
pub each_half_of_five : (n : ℕ) (a b f g h k p q x y : ℕ → ℕ) (op : ℕ → ℕ → ℕ → ℕ → ℕ → ℕ) (r s : ℕ → ℕ)
    → ((set : ℕ) → set < 2 ^ n → r set ≡ op (a set) (f set) (h set) (p set) (x set))
    → ((set : ℕ) → set < 2 ^ n → s set ≡ op (b set) (g set) (k set) (q set) (y set)) → (set : ℕ) → set < 2 ^ suc n
    → halves n r s set ≡ op (halves n a b set) (halves n f g set) (halves n h k set) (halves n p q set) (halves n x y set)
each_half_of_five n a b f g h k p q x y op r s low high set small = elim (cases_Bool (has set n)) [
  | inl there ↦ halves_with n r s set there ∙ high (without set n) (without_top n set small)
      ∙ sym (λ i. op (halves_with n a b set there i) (halves_with n f g set there i) (halves_with n h k set there i) (halves_with n p q set there i)
      (halves_with n x y set there i))
  | inr missing ↦ halves_out n r s set missing ∙ low set (below_top n set small missing)
      ∙ sym (λ i. op (halves_out n a b set missing i) (halves_out n f g set missing i) (halves_out n h k set missing i) (halves_out n p q set missing i)
      (halves_out n x y set missing i))
]

-- ---- one set

pub counted_same : (a b x : ℕ) → a ≡ b → counted (a == b) x ≡ x
counted_same a b x same = (let t : (a == b) ≡ true = grind (arith, nat_tests) in ap (λ t. counted t x) t)

pub counted_other : (a b x : ℕ) → a ≢ b → counted (a == b) x ≡ 0
counted_other a b x other = (let t : (a == b) ≡ false = grind (arith, nat_tests) in ap (λ t. counted t x) t)

module _ (n : ℕ) (f g : ℕ → ℕ) (set number : ℕ) where
  pub adds_low : (r : ℕ → ℕ) → set < 2 ^ n → ((other : ℕ) → other < 2 ^ n → r other ≡ f other + counted (other == set) number) → (other : ℕ) → other < 2 ^ suc n
      → halves n r g other ≡ halves n f g other + counted (other == set) number
  adds_low r lt added other small = elim (cases_Bool (has other n)) [
    | inl there ↦ (
        let apart : other ≢ set = λ same. false≢true (sym (lacks_top n set lt) ∙ ap (λ s. has s n) (sym same) ∙ there) in
        omega (arith, halves_with n r g other there, halves_with n f g other there, counted_other other set number apart))
    | inr missing ↦ omega (arith, halves_out n r g other missing, halves_out n f g other missing, added other (below_top n other small missing))
  ]

  pub adds_high : (r : ℕ → ℕ) (place : ℕ) → place ≡ 2 ^ n → place ≤ set → set < 2 ^ suc n
      → ((other : ℕ) → other < 2 ^ n → r other ≡ g other + counted (other == set - place) number) → (other : ℕ) → other < 2 ^ suc n
      → halves n f r other ≡ halves n f g other + counted (other == set) number
  adds_high r place is more small added other also = elim (cases_Bool (has other n)) [
    | inl there ↦ (
        let lt : without other n < 2 ^ n = without_top n other also in
        let value : other ≡ without other n + 2 ^ n = sym (with-without other n there) ∙ with_is_more n (without other n) lt in
        let same : counted (without other n == set - place) number ≡ counted (other == set) number = elim (cases_eq other set) [
          | inl equal ↦ counted_same (without other n) (set - place) number (omega (arith, value, equal, is)) ∙ sym (counted_same other set number equal)
          | inr apart ↦ counted_other (without other n) (set - place) number (λ equal. apart (omega (arith, value, equal, is, more)))
              ∙ sym (counted_other other set number apart)
        ] in
        omega (arith, halves_with n f r other there, halves_with n f g other there, added (without other n) lt, same))
    | inr missing ↦ (
        let lt : other < 2 ^ n = below_top n other also missing in
        omega (arith, halves_out n f r other missing, halves_out n f g other missing, counted_other other set number (λ same. omega (arith, same, lt, is, more))))
  ]

-- one number for the empty set, and another one for each other set
pub apart_halves : (n : ℕ) (f g : ℕ → ℕ) (none others : ℕ) → ((set : ℕ) → set < 2 ^ n → f set ≡ cond {A = ℕ} (set == 0) none others)
    → ((set : ℕ) → set < 2 ^ n → g set ≡ others) → (set : ℕ) → set < 2 ^ suc n → halves n f g set ≡ cond {A = ℕ} (set == 0) none others
apart_halves n f g none others low high set small = elim (cases_Bool (has set n)) [
  | inl there ↦ (
      let some : set ≢ 0 = λ is. false≢true (sym (has-empty n) ∙ ap (λ s. has s n) (sym is) ∙ there) in
      let test : (set == 0) ≡ false = grind (arith, nat_tests) in
      halves_with n f g set there ∙ high (without set n) (without_top n set small) ∙ sym (ap (λ b. cond {A = ℕ} b none others) test))
  | inr missing ↦ halves_out n f g set missing ∙ low set (below_top n set small missing)
]

-- ---- sums over the places that a set has not

pub other_sums_halves : (numbers : List ℕ) (n : ℕ) → n < 64 → (first next : ℕ) (f g : ℕ → ℕ) → next ≡ first + slice_index numbers n
    → ((set : ℕ) → set < 2 ^ n → f set + sum_over numbers set ≡ next + sum_over numbers (full n))
    → ((set : ℕ) → set < 2 ^ n → g set + sum_over numbers set ≡ first + sum_over numbers (full n)) → (set : ℕ) → set < 2 ^ suc n
    → halves n f g set + sum_over numbers set ≡ first + sum_over numbers (full (suc n))
other_sums_halves numbers n few first next f g is low high set small = elim (cases_Bool (has set n)) [
  | inl there ↦ (
      let lt : without set n < 2 ^ n = without_top n set small in
      let more : sum_over numbers (with (without set n) n) ≡ sum_over numbers (without set n) + slice_index numbers n
      = sum_over-with numbers (without set n) n few (has-without_same set n) in
      omega (
        arith,
        halves_with n f g set there,
        high (without set n) lt,
        more,
        ap (sum_over numbers) (with-without set n there),
        sum_full_more numbers n few,
      ))
  | inr missing ↦ omega (
    arith,
    halves_out n f g set missing,
    low set (below_top n set small missing),
    is,
    sum_full_more numbers n few,
  )
]

-- ---- sums over subsets

-- of numbers that agree, at sets that agree
pub within_same : (n : ℕ) (p q : ℕ → ℕ) → ((set : ℕ) → set < 2 ^ n → p set ≡ q set) → (set other : ℕ) → ((i : ℕ) → i < n → has set i ≡ has other i)
    → sum_within n p set ≡ sum_within n q other
within_same zero p q same set other alike = same 0 (omega arith)
within_same (suc n) p q same set other alike =
    let low : sum_within n p set ≡ sum_within n q other = within_same n p q (λ s lt. same s (wider_top n s lt)) set other (λ i lt. alike i (omega (arith, lt))) in
    let high : sum_within n (λ part. p (with part n)) set ≡ sum_within n (λ part. q (with part n)) other
    = within_same n (λ part. p (with part n)) (λ part. q (with part n)) (λ s lt. same (with s n) (with_top n s lt)) set other (λ i lt. alike i (omega (arith, lt))) in
    λ i. low i + cond {A = ℕ} (alike n (omega arith) i) (high i) 0

pub within_agree : (n : ℕ) (p q : ℕ → ℕ) (set : ℕ) → ((s : ℕ) → s < 2 ^ n → p s ≡ q s) → sum_within n p set ≡ sum_within n q set
within_agree n p q set same = within_same n p q same set set (λ i lt. refl)

-- no more than of a greater set
within_most : (n : ℕ) (p : ℕ → ℕ) (set other : ℕ) → ((i : ℕ) → i < n → has set i ≡ true → has other i ≡ true) → sum_within n p set ≤ sum_within n p other
within_most zero p set other part = omega arith
within_most (suc n) p set other part =
    let low : sum_within n p set ≤ sum_within n p other = within_most n p set other (λ i lt. part i (omega (arith, lt))) in
    let high : sum_within n (λ s. p (with s n)) set ≤ sum_within n (λ s. p (with s n)) other = within_most n (λ s. p (with s n)) set other (λ i lt. part i (omega (arith, lt))) in
    let top = chosen (has set n) (has other n) (sum_within n (λ s. p (with s n)) set) (sum_within n (λ s. p (with s n)) other) (part n (omega arith)) high in
    omega (arith, low, top)
  where
    chosen : (a b : Bool) (x y : ℕ) → (a ≡ true → b ≡ true) → x ≤ y → cond {A = ℕ} a x 0 ≤ cond {A = ℕ} b y 0
    chosen true true x y goes le = le
    chosen true false x y goes le = absurd (false≢true (goes refl))
    chosen false true x y goes le = omega arith
    chosen false false x y goes le = omega arith

module _ (n : ℕ) (f g : ℕ → ℕ) where
  within_with : (set : ℕ) → has set n ≡ true → sum_within (suc n) (halves n f g) set ≡ sum_within n f (without set n) + sum_within n g (without set n)
  within_with set there =
      let alike : (i : ℕ) → i < n → has set i ≡ has (without set n) i = λ i lt. sym (has-without_other set n i (λ same. omega (arith, same, lt))) in
      let low : sum_within n (halves n f g) set ≡ sum_within n f (without set n)
      = within_same n (halves n f g) f (λ s lt. halves_out n f g s (lacks_top n s lt)) set (without set n) alike in
      let high : sum_within n (λ part. halves n f g (with part n)) set ≡ sum_within n g (without set n)
      = within_same n (λ part. halves n f g (with part n)) g (λ s lt. halves_at n f g s lt) set (without set n) alike in
      (λ i. low i + cond {A = ℕ} (there i) (high i) 0)

  within_out : (set : ℕ) → has set n ≡ false → sum_within (suc n) (halves n f g) set ≡ sum_within n f set
  within_out set missing =
      let low : sum_within n (halves n f g) set ≡ sum_within n f set = within_same n (halves n f g) f (λ s lt. halves_out n f g s (lacks_top n s lt)) set set (λ i lt. refl) in
      let top : cond {A = ℕ} (has set n) (sum_within n (λ part. halves n f g (with part n)) set) 0 ≡ 0
      = ap (λ b. cond {A = ℕ} b (sum_within n (λ part. halves n f g (with part n)) set) 0) missing in
      omega (arith, low, top)

  pub total_parts : sum_within (suc n) (halves n f g) (full (suc n)) ≡ sum_within n f (full n) + sum_within n g (full n)
  total_parts =
      let alike : (i : ℕ) → i < n → has (without (full (suc n)) n) i ≡ has (full n) i = λ i lt. has-without_other (full (suc n)) n i (λ same. omega (arith, same, lt))
      ∙ has_full (suc n) i (omega (arith, lt)) ∙ sym (has_full n i lt) in
      within_with (full (suc n)) (has_full (suc n) n (omega arith))
      ∙ (λ i. within_same n f f (λ s lt. refl) (without (full (suc n)) n) (full n) alike i + within_same n g g (λ s lt. refl) (without (full (suc n)) n) (full n) alike i)

  module _ (low high : ℕ → ℕ) (lows : (set : ℕ) → set < 2 ^ n → low set ≡ sum_within n f set) (highs : (set : ℕ) → set < 2 ^ n → high set ≡ sum_within n g set) where
    pub parts_fit : (most : ℕ) → sum_within (suc n) (halves n f g) (full (suc n)) ≤ most → (set : ℕ) → set < 2 ^ n → high set + low set ≤ most
    parts_fit most fits set lt = omega (
      arith,
      fits,
      total_parts,
      lows set lt,
      highs set lt,
      within_most n f set (full n) (λ i less _. has_full n i less),
      within_most n g set (full n) (λ i less _. has_full n i less),
    )

    pub below_halves : (both : ℕ → ℕ) → ((set : ℕ) → set < 2 ^ n → both set ≡ high set + low set) → (set : ℕ) → set < 2 ^ suc n
        → halves n low both set ≡ sum_within (suc n) (halves n f g) set
    below_halves both sum set small = elim (cases_Bool (has set n)) [
      | inl there ↦ (
          let lt : without set n < 2 ^ n = without_top n set small in
          omega (arith, halves_with n low both set there, sum (without set n) lt, lows (without set n) lt, highs (without set n) lt, within_with set there))
      | inr missing ↦ omega (arith, halves_out n low both set missing, lows set (below_top n set small missing), within_out set missing)
    ]

-- of two places
pub below_two : (f : ℕ → ℕ) → (set : ℕ) → set < 4 → slice_index (f 0 ∷ (f 0 + f 1) ∷ (f 0 + f 2) ∷ (f 0 + f 2 + (f 1 + f 3)) ∷ []) set ≡ sum_within 2 f set
unfolding has with union
below_two f = by_four (λ set. slice_index (f 0 ∷ (f 0 + f 1) ∷ (f 0 + f 2) ∷ (f 0 + f 2 + (f 1 + f 3)) ∷ []) set ≡ sum_within 2 f set)
    (omega arith) (omega arith) (omega arith) (omega arith)

pub total_two : (f : ℕ → ℕ) → sum_within 2 f (full 2) ≡ f 0 + f 1 + (f 2 + f 3)
unfolding full has with union
total_two f = omega arith

-- in lanes, where the numbers of the sets without the first place are added, and then those of the sets without the second
module _ (xs a : List ℕ) (long : length xs ≡ 4) (firsts : a ≡ 0 ∷ slice_index xs 0 ∷ 0 ∷ slice_index xs 2 ∷ []) where
  first_at : (i : ℕ) → slice_index a i ≡ slice_index (0 ∷ slice_index xs 0 ∷ 0 ∷ slice_index xs 2 ∷ []) i
  first_at i = ap (λ l. slice_index l i) firsts

  pub firsts_fit : sum_within 2 (slice_index xs) (full 2) < 4294967296 → (i : ℕ) → i < 4 → slice_index xs i + slice_index a i < 4294967296
  firsts_fit fits = (let total = total_two (slice_index xs) in by_four (λ i. slice_index xs i + slice_index a i < 4294967296)
      (omega (arith, fits, total, first_at 0)) (omega (arith, fits, total, first_at 1)) (omega (arith, fits, total, first_at 2)) (omega (arith, fits, total, first_at 3)))

  abbrev with_first : List ℕ
  with_first = zip2 (λ (x y : ℕ). x + y) xs a

  with_first_lanes : length with_first ≡ 4
  with_first_lanes = sum_lanes xs a long (ap length firsts)

  with_first_at : (i : ℕ) → i < 4 → slice_index with_first i ≡ slice_index xs i + slice_index (0 ∷ slice_index xs 0 ∷ 0 ∷ slice_index xs 2 ∷ []) i
  with_first_at i lt = sum_at xs a long (ap length firsts) i lt ∙ ap (λ x. slice_index xs i + x) (first_at i)

  abbrev below : List ℕ
  below = slice_index xs 0 ∷ (slice_index xs 0 + slice_index xs 1) ∷ (slice_index xs 0 + slice_index xs 2)
      ∷ (slice_index xs 0 + slice_index xs 2 + (slice_index xs 1 + slice_index xs 3)) ∷ []

  module _ (b : List ℕ) (seconds : b ≡ 0 ∷ 0 ∷ slice_index with_first 0 ∷ slice_index with_first 1 ∷ []) where
    second_at : (i : ℕ) → slice_index b i ≡ slice_index (0 ∷ 0 ∷ slice_index with_first 0 ∷ slice_index with_first 1 ∷ []) i
    second_at i = ap (λ l. slice_index l i) seconds

    sums : (i : ℕ) → i < 4 → slice_index with_first i + slice_index b i ≡ slice_index below i
    sums = (let none = with_first_at 0 (omega arith) in let one = with_first_at 1 (omega arith) in let two = with_first_at 2 (omega arith) in
        let both = with_first_at 3 (omega arith) in by_four (λ i. slice_index with_first i + slice_index b i ≡ slice_index below i)
        (omega (arith, none, second_at 0)) (omega (arith, one, second_at 1)) (omega (arith, none, two, second_at 2)) (omega (arith, one, both, second_at 3)))

    pub seconds_fit : sum_within 2 (slice_index xs) (full 2) < 4294967296 → (i : ℕ) → i < 4 → slice_index with_first i + slice_index b i < 4294967296
    seconds_fit fits i lt = (let total = total_two (slice_index xs) in let same = sums i lt in
        let most : slice_index below i ≤ slice_index xs 0 + slice_index xs 1 + (slice_index xs 2 + slice_index xs 3)
        = by_four (λ i. slice_index below i ≤ slice_index xs 0 + slice_index xs 1 + (slice_index xs 2 + slice_index xs 3))
        (omega arith) (omega arith) (omega arith) (omega arith) i lt in omega (arith, same, most, total, fits))

    pub below_lanes : length (zip2 (λ (x y : ℕ). x + y) with_first b) ≡ 4
    below_lanes = sum_lanes with_first b with_first_lanes (ap length seconds)

    pub below_at : (set : ℕ) → set < 4 → slice_index (zip2 (λ (x y : ℕ). x + y) with_first b) set ≡ sum_within 2 (slice_index xs) set
    below_at set lt = sum_at with_first b with_first_lanes (ap length seconds) set lt ∙ sums set lt ∙ below_two (slice_index xs) set lt
