use Rattle.std.proofs.Common.{◌+◌, ◌*◌, ◌-◌, ◌^◌, ◌≤◌, ◌∙◌, ℕ, ap, arith, length, max}
use Rattle.std.proofs.lemmas.List.{length-set}
use Rattle.strip_sets.specs.Numbers.{in_block}
use Rattle.strip_sets.proofs.Blocks.{of_block, products_same, turned_all, turned_more, value_at, value_read}
use Rattle.strip_sets.proofs.table.greater_with.Goals as goal

pub greater_with-requires-clause-fits : goal.greater_with-requires-clause-fits
greater_with-requires-clause-fits g c = λ set lt. omega (
  arith,
  of_block g.B.BySet.places (length c.args.table.now) (λ (b s : ℕ). in_block g.B.BySet.value c.args.others.now b s + c.args.rate * in_block g.B.BySet.value c.args.paid.now b s ≤ g.B.BySet.most) c.requires.fits c.loop-block.block set c.loop-block-test.true lt,
  value_read g.B.BySet.value c.args.others.now c.loop-block.block set c.index-others-block.result (omega (arith, c.requires.same.0, c.loop-block-test.true)) c.index-others-block.is,
  ap (λ (n : ℕ). c.args.rate * n) (value_read g.B.BySet.value c.args.paid.now c.loop-block.block set c.index-paid-block.result (omega (arith, c.requires.same.1, c.loop-block-test.true)) c.index-paid-block.is),
)

pub greater_with-requires-clause-covered : goal.greater_with-requires-clause-covered
greater_with-requires-clause-covered g c = λ set lt. omega (
  arith,
  of_block g.B.BySet.places (length c.args.table.now) (λ (b s : ℕ). in_block g.B.BySet.value c.args.extras.now b s * in_block g.B.BySet.value c.args.owed.now b s ≤ in_block g.B.BySet.value c.args.others.now b s) c.requires.covered c.loop-block.block set c.loop-block-test.true lt,
  value_read g.B.BySet.value c.args.others.now c.loop-block.block set c.index-others-block.result (omega (arith, c.requires.same.0, c.loop-block-test.true)) c.index-others-block.is,
  products_same (value_read g.B.BySet.value c.args.extras.now c.loop-block.block set c.index-extras-block.result (omega (arith, c.requires.same.2, c.loop-block-test.true)) c.index-extras-block.is) (value_read g.B.BySet.value c.args.owed.now c.loop-block.block set c.index-owed-block.result (omega (arith, c.requires.same.3, c.loop-block-test.true)) c.index-owed-block.is),
)

pub loop-block-preserved : goal.loop-block-preserved
loop-block-preserved g c = (
  length-set c.loop-block.table c.loop-block.block c.greater_with.new.self ∙ c.loop-block.invariant.0,
  turned_more g.B.BySet.value (2 ^ g.B.BySet.places) (in_block g.B.BySet.value c.args.table.now) (λ (b s : ℕ). max (in_block g.B.BySet.value c.args.table.now b s) (in_block g.B.BySet.value c.args.others.now b s + c.args.rate * in_block g.B.BySet.value c.args.paid.now b s - in_block g.B.BySet.value c.args.extras.now b s * in_block g.B.BySet.value c.args.owed.now b s))
      c.loop-block.block c.loop-block.table c.greater_with.new.self (omega (arith, c.loop-block.invariant.0, c.loop-block-test.true))
      (λ set lt. omega (
        arith,
        c.greater_with.ensures set lt,
        value_at g.B.BySet.value c.loop-block.table c.loop-block.block set c.index-table-block.result (omega (arith, c.loop-block.invariant.0, c.loop-block-test.true)),
        c.loop-block.invariant.1.left c.loop-block.block set (omega arith),
        value_read g.B.BySet.value c.args.others.now c.loop-block.block set c.index-others-block.result (omega (arith, c.requires.same.0, c.loop-block-test.true)) c.index-others-block.is,
        ap (λ (n : ℕ). c.args.rate * n) (value_read g.B.BySet.value c.args.paid.now c.loop-block.block set c.index-paid-block.result (omega (arith, c.requires.same.1, c.loop-block-test.true)) c.index-paid-block.is),
        products_same (value_read g.B.BySet.value c.args.extras.now c.loop-block.block set c.index-extras-block.result (omega (arith, c.requires.same.2, c.loop-block-test.true)) c.index-extras-block.is) (value_read g.B.BySet.value c.args.owed.now c.loop-block.block set c.index-owed-block.result (omega (arith, c.requires.same.3, c.loop-block-test.true)) c.index-owed-block.is),
      ))
      c.loop-block.invariant.1,
)

pub returns-clause-each : goal.returns-clause-each
returns-clause-each g c = turned_all g.B.BySet.places (length c.args.table.now) c.loop-block.block c.loop-block-test.false c.loop-block.invariant.1
