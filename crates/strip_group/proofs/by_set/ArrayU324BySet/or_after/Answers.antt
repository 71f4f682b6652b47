use Rattle.std.proofs.Common.{◌≡◌, ◌+◌, ◌*◌, ◌∙◌, ◌∷◌, [], max, slice_index, refl}
use Rattle.strip_sets.proofs.FourSets.{by_four}
use Rattle.strip_group.proofs.by_set.ArrayU324BySet.or_after.Goals as goal

pub returns : goal.returns
returns c = λ set lt. c.or_paid.ensures.each set lt
    ∙ by_four (λ lane. max (slice_index c.args.self.now lane) (slice_index c.args.others.now lane + slice_index
    (c.args.rate ∷ c.args.rate ∷ c.args.rate ∷ c.args.rate ∷ []) lane * slice_index c.args.days.now lane)
    ≡ max (slice_index c.args.self.now lane) (slice_index c.args.others.now lane + c.args.rate * slice_index c.args.days.now lane)) refl refl refl refl set lt
