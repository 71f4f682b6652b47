-- Vectors of four numbers, lane by lane.
use Rattle.std.proofs.Common.{◌≡◌, ℕ, suc, ◌+◌, ◌-◌, ◌*◌, ◌^◌, ◌<◌, Bool, false, ◌≤◌, cond, ltb, max, min, zero, ◌%◌, List}
use Rattle.std.proofs.Common.{[], ◌∷◌, ◌++◌, length, get_or, map, slice_index, refl, sym, ap, ◌∙◌, inl, inr, arith, Fits, w32}
use Rattle.std.proofs.lemmas.Bool.{cases_lt, lt-ltb}
use Rattle.std.proofs.lemmas.Bool.Decides.{nat_tests}
use Rattle.std.proofs.lemmas.List.{get_or_append_left}
use Rattle.std.proofs.lemmas.Simd.{tops_compared, length-zip2, length-sel_l, get_or-sel_l, get_or-zip2}
use Rattle.strip_sets.proofs.FourSets.{by_four}
use lib.Lanes.{Each2, zip2, sel_l, top}
use mir.Val.{bits, hbits}

-- the same number in each lane
pub same_at : (number lane : ℕ) → lane < 4 → slice_index (number ∷ number ∷ number ∷ number ∷ []) lane ≡ number
same_at number = by_four (λ lane. slice_index (number ∷ number ∷ number ∷ number ∷ []) lane ≡ number) refl refl refl refl

-- a fact of each two lanes
pub each_two : (P : ℕ → ℕ → Type 0) (xs ys : List ℕ) → length xs ≡ length ys → ((i : ℕ) → i < length xs → P (get_or xs i 0) (get_or ys i 0)) → Each2 P xs ys
each_two P [] ys same each = tt
each_two P (x ∷ xs) [] same each = tt
each_two P (x ∷ xs) (y ∷ ys) same each = (each 0 (omega arith), each_two P xs ys (omega (arith, same)) (λ i lt. each (suc i) (omega (arith, lt))))

-- products and sums that fit
pub products_fit : (xs ys : List ℕ) → length xs ≡ 4 → length ys ≡ 4 → ((i : ℕ) → i < 4 → slice_index xs i * slice_index ys i < 2 ^ 32) → Each2 (λ a b. Fits w32 (a * b)) xs ys
products_fit xs ys long also fit = each_two (λ a b. Fits w32 (a * b)) xs ys (long ∙ sym also) (λ i lt. record { fits = fit i (omega (arith, lt, long)) })

pub sums_fit : (xs ys : List ℕ) → length xs ≡ 4 → length ys ≡ 4 → ((i : ℕ) → i < 4 → slice_index xs i + slice_index ys i < 2 ^ 32) → Each2 (λ a b. Fits w32 (a + b)) xs ys
sums_fit xs ys long also fit = each_two (λ a b. Fits w32 (a + b)) xs ys (long ∙ sym also) (λ i lt. record { fits = fit i (omega (arith, lt, long)) })

pub differences_fit : (xs ys : List ℕ) → length xs ≡ 4 → length ys ≡ 4 → ((i : ℕ) → i < 4 → slice_index ys i ≤ slice_index xs i) → Each2 (λ a b. b ≤ a) xs ys
differences_fit xs ys long also fit = each_two (λ a b. b ≤ a) xs ys (long ∙ sym also) (λ i lt. fit i (omega (arith, lt, long)))

module _ (xs ys : List ℕ) (long : length xs ≡ 4) (also : length ys ≡ 4) where
  pub difference_at : (i : ℕ) → i < 4 → slice_index (zip2 (λ a b. a - b) xs ys) i ≡ slice_index xs i - slice_index ys i
  difference_at i lt = get_or-zip2 (λ (a b : ℕ). a - b) xs ys i 0 0 0 (omega (arith, lt, long)) (omega (arith, lt, also))

  pub difference_lanes : length (zip2 (λ (a b : ℕ). a - b) xs ys) ≡ 4
  difference_lanes = length-zip2 (λ (a b : ℕ). a - b) xs ys (long ∙ sym also) ∙ long

  pub product_at : (i : ℕ) → i < 4 → slice_index (zip2 (λ a b. a * b) xs ys) i ≡ slice_index xs i * slice_index ys i
  product_at i lt = get_or-zip2 (λ (a b : ℕ). a * b) xs ys i 0 0 0 (omega (arith, lt, long)) (omega (arith, lt, also))

  pub sum_at : (i : ℕ) → i < 4 → slice_index (zip2 (λ a b. a + b) xs ys) i ≡ slice_index xs i + slice_index ys i
  sum_at i lt = get_or-zip2 (λ (a b : ℕ). a + b) xs ys i 0 0 0 (omega (arith, lt, long)) (omega (arith, lt, also))

  pub product_lanes : length (zip2 (λ (a b : ℕ). a * b) xs ys) ≡ 4
  product_lanes = length-zip2 (λ (a b : ℕ). a * b) xs ys (long ∙ sym also) ∙ long

  pub sum_lanes : length (zip2 (λ (a b : ℕ). a + b) xs ys) ≡ 4
  sum_lanes = length-zip2 (λ (a b : ℕ). a + b) xs ys (long ∙ sym also) ∙ long

  -- the lesser of each two, by a comparison and a choice
  abbrev pub lesser : List ℕ
  lesser = sel_l (map (top (hbits w32)) (zip2 (λ a b. cond {A = ℕ} (ltb a b) (2 ^ bits w32 - 1) 0) xs ys)) xs ys

  tests : lesser ≡ sel_l (zip2 ltb xs ys) xs ys
  tests = ap (λ ms. sel_l ms xs ys) (tops_compared w32 ltb xs ys)

  tests_long : length (zip2 ltb xs ys) ≡ 4
  tests_long = length-zip2 ltb xs ys (long ∙ sym also) ∙ long

  pub lesser_lanes : length lesser ≡ 4
  lesser_lanes = ap length tests ∙ length-sel_l (zip2 ltb xs ys) xs ys (tests_long ∙ sym long) (tests_long ∙ sym also) ∙ tests_long

  pub lesser_at : (i : ℕ) → i < 4 → slice_index lesser i ≡ min (slice_index xs i) (slice_index ys i)
  lesser_at i lt = ap (λ l. get_or l i 0) tests ∙ get_or-sel_l (zip2 ltb xs ys) xs ys i 0 (omega (arith, lt, tests_long)) (omega (arith, lt, long)) (omega (arith, lt, also))
      ∙ ap (λ t. cond t (get_or xs i 0) (get_or ys i 0)) (get_or-zip2 ltb xs ys i 0 0 false (omega (arith, lt, long)) (omega (arith, lt, also)))
      ∙ chosen (get_or xs i 0) (get_or ys i 0)
    where
      chosen : (a b : ℕ) → cond {A = ℕ} (ltb a b) a b ≡ min a b
      chosen a b = elim (cases_lt a b) [
        | inl less ↦ ap (λ (t : Bool). cond {A = ℕ} t a b) (lt-ltb a b less) ∙ omega (arith, less)
        | inr more ↦ (let not_less : ltb a b ≡ false = grind (arith, nat_tests) in ap (λ (t : Bool). cond {A = ℕ} t a b) not_less ∙ omega (arith, more))
      ]

  -- and the greater
  abbrev pub greater : List ℕ
  greater = sel_l (map (top (hbits w32)) (zip2 (λ a b. cond {A = ℕ} (ltb a b) (2 ^ bits w32 - 1) 0) xs ys)) ys xs

  choices : greater ≡ sel_l (zip2 ltb xs ys) ys xs
  choices = ap (λ ms. sel_l ms ys xs) (tops_compared w32 ltb xs ys)

  pub greater_lanes : length greater ≡ 4
  greater_lanes = ap length choices ∙ length-sel_l (zip2 ltb xs ys) ys xs (tests_long ∙ sym also) (tests_long ∙ sym long) ∙ tests_long

  pub greater_at : (i : ℕ) → i < 4 → slice_index greater i ≡ max (slice_index xs i) (slice_index ys i)
  greater_at i lt = ap (λ l. get_or l i 0) choices ∙ get_or-sel_l (zip2 ltb xs ys) ys xs i 0 (omega (arith, lt, tests_long)) (omega (arith, lt, also)) (omega (arith, lt, long))
      ∙ ap (λ t. cond t (get_or ys i 0) (get_or xs i 0)) (get_or-zip2 ltb xs ys i 0 0 false (omega (arith, lt, long)) (omega (arith, lt, also)))
      ∙ chosen (get_or xs i 0) (get_or ys i 0)
    where
      chosen : (a b : ℕ) → cond {A = ℕ} (ltb a b) b a ≡ max a b
      chosen a b = elim (cases_lt a b) [
        | inl less ↦ ap (λ (t : Bool). cond {A = ℕ} t b a) (lt-ltb a b less) ∙ omega (arith, less)
        | inr more ↦ (let not_less : ltb a b ≡ false = grind (arith, nat_tests) in ap (λ (t : Bool). cond {A = ℕ} t b a) not_less ∙ omega (arith, more))
      ]

-- extras for what the days are more
module _ (extras days before : List ℕ) (w : length extras ≡ 4) (d : length days ≡ 4) (b : length before ≡ 4) where
  abbrev pub owing : List ℕ
  owing = zip2 (λ (x y : ℕ). x * y) extras (zip2 (λ (x y : ℕ). x - y) days before)

  pub owing_lanes : length owing ≡ 4
  owing_lanes = product_lanes extras (zip2 (λ (x y : ℕ). x - y) days before) w (difference_lanes days before d b)

  pub owing_at : (i : ℕ) → i < 4 → slice_index owing i ≡ slice_index extras i * (slice_index days i - slice_index before i)
  owing_at i lt = product_at extras (zip2 (λ (x y : ℕ). x - y) days before) w (difference_lanes days before d b) i lt
      ∙ ap (λ (x : ℕ). slice_index extras i * x) (difference_at days before d b i lt)

  pub owing_fit : ((i : ℕ) → i < 4 → slice_index extras i * (slice_index days i - slice_index before i) < 2 ^ 32)
      → Each2 (λ x y. Fits w32 (x * y)) extras (zip2 (λ (x y : ℕ). x - y) days before)
  owing_fit fit = products_fit extras (zip2 (λ (x y : ℕ). x - y) days before) w (difference_lanes days before d b)
      (λ i lt. (let same = ap (λ (x : ℕ). slice_index extras i * x) (difference_at days before d b i lt) in omega (arith, same, fit i lt)))

-- a number, with what is saved, less what is owed
module _ (others saved owed : List ℕ) (lo : length others ≡ 4) (ls : length saved ≡ 4) (ld : length owed ≡ 4) where
  abbrev pub settled : List ℕ
  settled = zip2 (λ (x y : ℕ). x - y) (zip2 (λ (x y : ℕ). x + y) others saved) owed

  pub settled_lanes : length settled ≡ 4
  settled_lanes = difference_lanes (zip2 (λ (x y : ℕ). x + y) others saved) owed (sum_lanes others saved lo ls) ld

  pub settled_at : (i : ℕ) → i < 4 → slice_index settled i ≡ slice_index others i + slice_index saved i - slice_index owed i
  settled_at i lt = difference_at (zip2 (λ (x y : ℕ). x + y) others saved) owed (sum_lanes others saved lo ls) ld i lt
      ∙ ap (λ (x : ℕ). x - slice_index owed i) (sum_at others saved lo ls i lt)

-- the lowest bits of a rate, where its product fits
pub low_product : (rate days : ℕ) → rate * days < 2 ^ 32 → rate % 2 ^ 32 * days ≡ rate * days
low_product rate zero fits = grind arith
low_product rate (suc days) fits =
    let whole : rate ≤ rate * suc days = mul-le-grow rate days in
    let kept : rate % 4294967296 ≡ rate = omega (arith, whole, fits) in
    ap (λ (x : ℕ). x * suc days) kept
  where
    mul-le-grow : (a b : ℕ) → a ≤ a * suc b
    mul-le-grow a b = (let more : a * suc b ≡ a + a * b = grind arith in omega (arith, more))

-- a rate on some days, by its lowest bits
module _ (low rate : ℕ) (days : List ℕ) (is : low ≡ rate % 4294967296) (long : length days ≡ 4) (fit : (i : ℕ) → i < 4 → rate * slice_index days i < 2 ^ 32) where
  abbrev rates : List ℕ
  rates = low ∷ low ∷ low ∷ low ∷ []

  rate_at : (i : ℕ) → i < 4 → slice_index rates i * slice_index days i ≡ rate * slice_index days i
  rate_at i lt = ap (λ (x : ℕ). x * slice_index days i) (same_at low i lt ∙ is) ∙ low_product rate (slice_index days i) (fit i lt)

  abbrev pub rated : List ℕ
  rated = zip2 (λ (x y : ℕ). x * y) rates days

  pub rated_fit : Each2 (λ x y. Fits w32 (x * y)) rates days
  rated_fit = products_fit rates days refl long (λ i lt. omega (arith, rate_at i lt, fit i lt))

  pub rated_lanes : length rated ≡ 4
  rated_lanes = product_lanes rates days refl long

  pub rated_at : (i : ℕ) → i < 4 → slice_index rated i ≡ rate * slice_index days i
  rated_at i lt = product_at rates days refl long i lt ∙ rate_at i lt

-- a lane of a vector beside itself
pub lane_of : (xs ys : List ℕ) (i : ℕ) → length xs ≡ 4 → i < 4 → slice_index (xs ++ ys) i ≡ slice_index xs i
lane_of xs ys i long lt = get_or_append_left xs ys 0 i (omega (arith, long, lt))
