use Rattle.std.proofs.Common.{◌∷◌, [], ◌∙◌, ap, min, refl, slice_index}
use Rattle.strip_sets.proofs.Vectors.{lesser_at, same_at}
use Rattle.strip_sets.proofs.by_set.ArrayU324BySet.at_most.Goals as goal

pub returns : goal.returns
returns c = λ i lt. lesser_at c.args.self.now (c.args.number ∷ c.args.number ∷ c.args.number ∷ c.args.number ∷ []) c.told-self refl i lt
    ∙ ap (min (slice_index c.args.self.now i)) (same_at c.args.number i lt)
