-- What places get together, each its rate for each day of the set of it alone.
use Rattle.std.proofs.Common.{◌≡◌, ℕ, suc, ◌+◌, ◌*◌, ◌^◌, ◌<◌, ◌≤◌, List, slice_index, sym, ap, ◌∙◌, arith, pow_pos}
use Rattle.std.proofs.Math.Nat.{mul-le-mul}
use Rattle.strip_mask.specs.Set.{meet, sum_over, with}
use Rattle.strip_mask.specs.Sums.{sum_below}
use Rattle.strip_mask.proofs.ByMembers.{has-empty}
use Rattle.strip_mask.proofs.Sums.{sum_below-ext, sum_below-same, sum_below-suc, sum_below-zero, sum_below_mono}
use Rattle.strip_sets.specs.Numbers.{halves}
use Rattle.strip_group.specs.Saved.{left_by}
use Rattle.strip_sets.proofs.FourSets.{with_first, with_second}
use Rattle.strip_group.proofs.Left.{left_alone}
use Rattle.strip_sets.proofs.Sets.{one_small, lacks_top, halves_out, halves_at}

-- of no place and of two
pub alone_none : (rates : List ℕ) (days : ℕ → ℕ) → 0 ≡ sum_below 0 (λ place. slice_index rates place * days (with 0 place))
alone_none rates days = sym (sum_below-zero (λ place. slice_index rates place * days (with 0 place)))

pub alone_two : (rates days : List ℕ)
    → slice_index rates 0 * slice_index days 1 + slice_index rates 1 * slice_index days 2 ≡ sum_below 2 (λ place. slice_index rates place * slice_index days (with 0 place))
alone_two rates days =
    let pay : ℕ → ℕ = λ place. slice_index rates place * slice_index days (with 0 place) in
    let first : pay 0 ≡ slice_index rates 0 * slice_index days 1 = ap (λ (s : ℕ). slice_index rates 0 * slice_index days s) with_first in
    let second : pay 1 ≡ slice_index rates 1 * slice_index days 2 = ap (λ (s : ℕ). slice_index rates 1 * slice_index days s) with_second in
    let none : sum_below 0 pay ≡ 0 = sum_below-zero pay in
    let one : sum_below 1 pay ≡ sum_below 0 pay + pay 0 = sum_below-suc 0 pay in
    let two : sum_below 2 pay ≡ sum_below 1 pay + pay 1 = sum_below-suc 1 pay in
    omega (arith, first, second, none, one, two)

-- of one place more
module _ (n : ℕ) (f g : ℕ → ℕ) where
  pub halves_empty : halves n f g 0 ≡ f 0
  halves_empty = halves_out n f g 0 (has-empty n)

  pub halves_top : halves n f g (with 0 n) ≡ g 0
  halves_top = halves_at n f g 0 (pow_pos n)

  pub alone_more : (rates : List ℕ) (rate low first : ℕ) → low ≡ sum_below n (λ place. slice_index rates place * f (with 0 place)) → first ≡ g 0 → rate ≡ slice_index rates n
      → low + rate * first ≡ sum_below (suc n) (λ place. slice_index rates place * halves n f g (with 0 place))
  alone_more rates rate low first low_is first_is rate_is =
      let pay : ℕ → ℕ = λ place. slice_index rates place * halves n f g (with 0 place) in
      let below : sum_below n (λ place. slice_index rates place * f (with 0 place)) ≡ sum_below n pay
      = sum_below-ext n (λ place. slice_index rates place * f (with 0 place)) pay (λ place lt. ap (λ (d : ℕ). slice_index rates place * d)
      (sym (halves_out n f g (with 0 place) (lacks_top n (with 0 place) (one_small n place lt))))) in
      let top : rate * first ≡ pay n = ap (λ (r : ℕ). r * first) rate_is ∙ ap (λ (d : ℕ). slice_index rates n * d) (first_is ∙ sym halves_top) in
      let all : sum_below (suc n) pay ≡ sum_below n pay + pay n = sum_below-suc n pay in
      omega (arith, low_is, below, top, all)

-- at most so much
pub alone_most : (n rate most : ℕ) (rates : List ℕ) (days : ℕ → ℕ) → ((place : ℕ) → slice_index rates place ≤ rate) → ((set : ℕ) → set < 2 ^ n → days set ≤ most)
    → sum_below n (λ place. slice_index rates place * days (with 0 place)) ≤ n * (rate * most)
alone_most n rate most rates days paid few =
    let each : sum_below n (λ place. slice_index rates place * days (with 0 place)) ≤ sum_below n (λ _. rate * most)
    = sum_below_mono n (λ place. slice_index rates place * days (with 0 place)) (λ _. rate * most)
    (λ place lt. mul-le-mul (paid place) (few (with 0 place) (one_small n place lt))) in
    omega (arith, each, sum_below-same n (rate * most))

-- of six, each for the days that are without it
pub alone_of_six : (places : ℕ) → places ≡ 6 → (rates values stays : List ℕ) (scenes : ℕ) (days : ℕ → ℕ)
    → ((set : ℕ) → set < 2 ^ places → days set ≡ sum_over values (left_by stays places set scenes))
    → sum_below places (λ place. slice_index rates place * days (with 0 place)) ≡ sum_below 6 (λ place. slice_index rates place * sum_over values (meet scenes
    (slice_index stays place)))
alone_of_six places six rates values stays scenes days told =
    sum_below-ext places (λ place. slice_index rates place * days (with 0 place)) (λ place. slice_index rates place * sum_over values (meet scenes (slice_index stays place)))
    (λ place lt. ap (λ (d : ℕ). slice_index rates place * d) (told (with 0 place) (one_small places place lt) ∙ ap (sum_over values) (left_alone stays places place scenes lt)))
    ∙ ap (λ (n : ℕ). sum_below n (λ place. slice_index rates place * sum_over values (meet scenes (slice_index stays place)))) six
