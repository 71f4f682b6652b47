use Rattle.std.proofs.Common.{◌+◌, ◌∷◌, [], ◌∙◌, ℕ, List, ap, arith, refl, slice_index}
use Rattle.strip_sets.proofs.Vectors.{same_at, sum_at, sums_fit}
use Rattle.strip_sets.proofs.by_set.ArrayU324BySet.more_than.Goals as goal

pub overflow_cast-more : goal.overflow_cast-more
overflow_cast-more c = record { fits = omega (arith, c.requires 0 (omega arith)) }

pub overflow_add-self : goal.overflow_add-self
overflow_add-self c = sums_fit c.args.others.now (c.args.number ∷ c.args.number ∷ c.args.number ∷ c.args.number ∷ []) c.told-others refl
    (λ i lt. omega (arith, c.requires i lt, same_at c.args.number i lt))

pub returns : goal.returns
returns c = λ i lt. (
    let more : List ℕ = c.args.number ∷ c.args.number ∷ c.args.number ∷ c.args.number ∷ [] in
    sum_at c.args.others.now more c.told-others refl i lt ∙ ap (λ (x : ℕ). slice_index c.args.others.now i + x) (same_at c.args.number i lt))
