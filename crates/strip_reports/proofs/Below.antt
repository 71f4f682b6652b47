-- How many numbers of a set there are below a limit, and what they get.
use Rattle.std.proofs.Common.{◌≡◌, ℕ, ◌≤◌, Bool, cond, inl, inr, ap, ◌∙◌, arith}
use Rattle.std.proofs.lemmas.Bool.{cases_Bool, cond-false}
use Rattle.strip_mask.specs.Set.{LiesBelow, has, size}
use Rattle.strip_mask.specs.Sums.{sum_below}
use Rattle.strip_mask.proofs.Sizes.{size_is}
use Rattle.strip_mask.proofs.Sums.{sum_below-ext, sum_below-past}
use Rattle.strip_model.specs.Film.{FilmData}
use Rattle.strip_reports.specs.Days.{how_many, rate_by}

-- the size of a set that lies below n is how many of these numbers it has
pub size_counts : (m n set : ℕ) (test : ℕ → Bool) → m ≡ n → m ≤ 64 → LiesBelow m set → ((i : ℕ) → has set i ≡ test i) → size set ≡ how_many n test
size_counts m n set test count le lies same =
    size_is set
    ∙ sum_below-past m 64 (λ i. cond {A = ℕ} (has set i) 1 0) le (λ i from _. elim (cases_Bool (has set i)) [
      | inl member ↦ absurd (omega (arith, lies i member, from))
      | inr absent ↦ cond-false (has set i) 1 0 absent
    ])
    ∙ sum_below-ext m (λ i. cond {A = ℕ} (has set i) 1 0) (λ i. cond {A = ℕ} (test i) 1 0) (λ i _. ap (λ (b : Bool). cond {A = ℕ} b 1 0) (same i))
    ∙ ap (λ (k : ℕ). how_many k test) count

-- what all actors get by two sets and by two tests that say the same
pub rates_sum : (film : FilmData) (m n cast held : ℕ) (works holds : ℕ → Bool) → m ≡ n
    → ((i : ℕ) → has cast i ≡ works i) → ((i : ℕ) → has held i ≡ holds i)
    → sum_below m (λ i. rate_by film (has cast i) (has held i) i) ≡ sum_below n (λ i. rate_by film (works i) (holds i) i)
rates_sum film m n cast held works holds count working waiting =
    sum_below-ext m (λ i. rate_by film (has cast i) (has held i) i) (λ i. rate_by film (works i) (holds i) i)
    (λ i _. ap (λ (b : Bool). rate_by film b (has held i) i) (working i) ∙ ap (λ (b : Bool). rate_by film (works i) b i) (waiting i))
    ∙ ap (λ (k : ℕ). sum_below k (λ i. rate_by film (works i) (holds i) i)) count
