use Rattle.std.proofs.Common.{◌≡◌, ℕ, ◌+◌, ap, ◌∙◌, arith}
use Rattle.strip_mask.specs.Set.{full, sum_over}
use Rattle.strip_arrivals.proofs.ByPlace.{mates_picked, rest_is, some_most}
use Rattle.strip_arrivals.proofs.table.ArrivalsTable.mates.Goals as goal

pub other_sums-requires-clause-fits : goal.other_sums-requires-clause-fits
other_sums-requires-clause-fits g c = omega (
  arith,
  some_most (c.args.higher + g.B.BySet.places) c.args.self.now c.args.crew.now c.requires.crew c.requires.group c.works_in.result.0 c.holds_at-numbers.result c.holds_at-numbers.ensures (full (c.args.higher + g.B.BySet.places)),
  c.requires.room,
)

pub returns-clause-mates : goal.returns-clause-mates
returns-clause-mates g c = λ actors chosen places lt.
    rest_is (c.args.higher + g.B.BySet.places) c.args.self.now c.args.crew.now c.requires.crew c.requires.group c.works_in.result.0 c.holds_at-numbers.result c.holds_at-numbers.ensures places _ lt
    (c.other_sums.ensures.each places lt ∙ nothing (sum_over c.holds_at-numbers.result (full (c.args.higher + g.B.BySet.places))))
    ∙ ap (sum_over c.args.self.now.holds)
    (mates_picked (c.args.higher + g.B.BySet.places) c.args.self.now c.args.crew.now c.requires.crew c.requires.group c.requires.small c.args.scenes.0 c.works_in.result.0 actors chosen
    c.works_in.ensures.some c.works_in.ensures.all places)
  where
    nothing : (n : ℕ) → 0 + n ≡ n
    nothing n = omega arith
