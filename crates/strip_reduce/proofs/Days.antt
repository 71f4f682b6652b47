-- An actor's days of work.
use Rattle.std.proofs.Common.{◌≡◌, ℕ, ◌+◌, ◌≤◌, Bool, true, false, cond, List, sum, take, slice_index, ap, ◌∙◌, arith}
use Rattle.std.proofs.lemmas.List.Sums.{sum_by-take-le}
use Rattle.strip_mask.specs.Set.{has}
use Rattle.strip_mask.specs.Sums.{sum_below}
use Rattle.strip_mask.proofs.Sums.{sum_below-more, sum_below_mono, sum_below-take, sum_below-zero}

-- his days in the first n scenes
abbrev pub days_below : List ℕ → List ℕ → ℕ → ℕ → ℕ
days_below casts days n actor = sum_below n (λ scene. cond (has (slice_index casts scene) actor) (slice_index days scene) 0)

pub days_none : (casts days : List ℕ) (actor : ℕ) → days_below casts days 0 actor ≡ 0
days_none casts days actor = sum_below-zero (λ scene. cond (has (slice_index casts scene) actor) (slice_index days scene) 0)

pub days_more : (casts days : List ℕ) (n actor : ℕ) → days_below casts days (n + 1) actor ≡ days_below casts days n actor + cond (has (slice_index casts n) actor) (slice_index days n) 0
days_more casts days n actor = sum_below-more n (λ scene. cond (has (slice_index casts scene) actor) (slice_index days scene) 0)

pub days_within : (casts days : List ℕ) (n actor : ℕ) → days_below casts days n actor ≤ sum days
days_within casts days n actor =
    let part : days_below casts days n actor ≤ sum_below n (slice_index days) =
    sum_below_mono n (λ scene. cond (has (slice_index casts scene) actor) (slice_index days scene) 0) (slice_index days) (λ scene _. no_more (has (slice_index casts scene) actor) (slice_index days scene)) in
    let whole : sum_below n (slice_index days) ≡ sum (take n days) = sum_below-take days n in
    let within : sum (take n days) ≤ sum days = sum_by-take-le (λ x. x) days n in
    omega arith
  where
    no_more : (b : Bool) (n : ℕ) → cond b n 0 ≤ n
    no_more true n = omega arith
    no_more false n = omega arith

-- a scene that he works in fits beside those before it
pub days_fit : (casts days : List ℕ) (n actor : ℕ) → has (slice_index casts n) actor ≡ true → days_below casts days n actor + slice_index days n ≤ sum days
days_fit casts days n actor works =
    let within : days_below casts days (n + 1) actor ≤ sum days = days_within casts days (n + 1) actor in
    let more : days_below casts days (n + 1) actor ≡ days_below casts days n actor + slice_index days n =
    days_more casts days n actor ∙ ap (λ (b : Bool). days_below casts days n actor + cond b (slice_index days n) 0) works in
    omega arith
