use Rattle.std.proofs.Common.{◌+◌, ◌∷◌, [], ◌∙◌, ℕ, List, ap, arith, min, refl, slice_index}
use lib.Lanes.{zip2}
use Rattle.strip_sets.proofs.Vectors.{lesser_at, same_at, sum_at, sum_lanes, sums_fit}
use Rattle.strip_sets.proofs.by_set.ArrayU324BySet.more_at_most.Goals as goal

pub overflow_add-self : goal.overflow_add-self
overflow_add-self c = sums_fit c.args.others.now (c.args.number ∷ c.args.number ∷ c.args.number ∷ c.args.number ∷ []) c.told-others refl
    (λ i lt. omega (arith, c.requires i lt, same_at c.args.number i lt))

pub returns : goal.returns
returns c = λ i lt. (
    let more : List ℕ = c.args.number ∷ c.args.number ∷ c.args.number ∷ c.args.number ∷ [] in
    lesser_at (zip2 (λ (x y : ℕ). x + y) c.args.others.now more) c.args.limits.now (sum_lanes c.args.others.now more c.told-others refl) c.told-limits i lt
    ∙ ap (λ (x : ℕ). min x (slice_index c.args.limits.now i)) (sum_at c.args.others.now more c.told-others refl i lt
    ∙ ap (λ (x : ℕ). slice_index c.args.others.now i + x) (same_at c.args.number i lt)))
