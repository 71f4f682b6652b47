use Rattle.std.proofs.Common.{◌+◌, ◌^◌, ◌≤◌, ◌∙◌, ℕ, arith, length}
use Rattle.std.proofs.lemmas.List.{length-set}
use Rattle.strip_sets.specs.Numbers.{in_block}
use Rattle.strip_sets.proofs.Blocks.{of_block, turned_all, turned_more, value_read}
use Rattle.strip_sets.proofs.table.more_than.Goals as goal

pub more_than-requires : goal.more_than-requires
more_than-requires g c = λ set lt. omega (
  arith,
  of_block g.B.BySet.places (length c.args.table.now) (λ (b s : ℕ). in_block g.B.BySet.value c.args.others.now b s + c.args.more ≤ g.B.BySet.most) c.requires.fits c.loop-block.block set c.loop-block-test.true lt,
  value_read g.B.BySet.value c.args.others.now c.loop-block.block set c.index-others-block.result (omega (arith, c.requires.same, c.loop-block-test.true)) c.index-others-block.is,
)

pub loop-block-preserved : goal.loop-block-preserved
loop-block-preserved g c = (
  length-set c.loop-block.table c.loop-block.block c.more_than.new.self ∙ c.loop-block.invariant.0,
  turned_more g.B.BySet.value (2 ^ g.B.BySet.places) (in_block g.B.BySet.value c.args.table.now) (λ (b s : ℕ). in_block g.B.BySet.value c.args.others.now b s + c.args.more)
      c.loop-block.block c.loop-block.table c.more_than.new.self (omega (arith, c.loop-block.invariant.0, c.loop-block-test.true))
      (λ set lt. omega (
        arith,
        c.more_than.ensures set lt,
        value_read g.B.BySet.value c.args.others.now c.loop-block.block set c.index-others-block.result (omega (arith, c.requires.same, c.loop-block-test.true)) c.index-others-block.is,
      ))
      c.loop-block.invariant.1,
)

pub returns-clause-each : goal.returns-clause-each
returns-clause-each g c = turned_all g.B.BySet.places (length c.args.table.now) c.loop-block.block c.loop-block-test.false c.loop-block.invariant.1
