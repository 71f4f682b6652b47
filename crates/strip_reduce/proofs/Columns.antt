-- Actors and their rates when one of them is taken out, and sums over those that are left.
use Rattle.std.proofs.Common.{◌≡◌, ℕ, zero, suc, ◌+◌, ◌≤◌, List, [], ◌∷◌, refl, sym, ap, ◌∙◌, inl, inr, arith, add-one, slice_index}
use Rattle.std.proofs.lemmas.Bool.{cases_lt}
use Rattle.strip_mask.specs.Set.{has, behind_gap}
use Rattle.strip_mask.specs.Sums.{sum_below}
use Rattle.strip_mask.proofs.Gaps.{has-closed_up}
use Rattle.strip_mask.proofs.ByMembers.{has-empty}
use Rattle.strip_mask.proofs.Sums.{sum_below-zero, sum_below-suc, sum_below-ext}
use Rattle.strip_reduce.specs.Steps.{casts_without}
use Rattle.strip_reduce.proofs.Places.{gap_below, gap_above}

-- who works in a scene, when an actor is taken out
pub has-casts_without : (casts : List ℕ) (actor scene other : ℕ)
    → has (slice_index (casts_without casts actor) scene) other ≡ has (slice_index casts scene) (behind_gap actor other)
has-casts_without [] actor scene other = has-empty other ∙ sym (has-empty (behind_gap actor other))
has-casts_without (cast ∷ casts) actor zero other = has-closed_up cast actor other
has-casts_without (cast ∷ casts) actor (suc scene) other = has-casts_without casts actor scene other

-- a sum over all numbers, as that over those that are left and the one that is taken out
pub sum_below-gap : (n i : ℕ) (f : ℕ → ℕ) → i ≤ n → sum_below n (λ place. f (behind_gap i place)) + f i ≡ sum_below (suc n) f
sum_below-gap zero i f le = let first : i ≡ 0 = omega (arith, le) in rw (first, sum_below-zero (λ place. f (behind_gap 0 place))) (sym (sum_below-suc 0 f ∙ rw (sum_below-zero f) refl))
sum_below-gap (suc n) i f le = elim (cases_lt i (suc n)) [
  | inl lt ↦ (
      let rest : sum_below n (λ place. f (behind_gap i place)) + f i ≡ sum_below (suc n) f = sum_below-gap n i f (omega (arith, lt)) in
      let last : f (behind_gap i n) ≡ f (suc n) = ap f (gap_above i n (omega (arith, lt)) ∙ add-one n) in
      omega (arith, rest, last, sum_below-suc n (λ place. f (behind_gap i place)), sum_below-suc (suc n) f))
  | inr past ↦ (
      let here : i ≡ suc n = omega (arith, le, past) in
      let same : sum_below (suc n) (λ place. f (behind_gap i place)) ≡ sum_below (suc n) f
      = sum_below-ext (suc n) (λ place. f (behind_gap i place)) f (λ place lt. ap f (gap_below i place (omega (arith, lt, here)))) in
      omega (arith, same, ap f here, sum_below-suc (suc n) f))
]
