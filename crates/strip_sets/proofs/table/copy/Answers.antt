use Rattle.std.proofs.Common.{◌^◌, ◌∙◌, ℕ, arith, length}
use Rattle.std.proofs.lemmas.List.{length-set}
use Rattle.strip_sets.specs.Numbers.{in_block}
use Rattle.strip_sets.proofs.Blocks.{turned_all, turned_more, value_read}
use Rattle.strip_sets.proofs.table.copy.Goals as goal

pub loop-block-preserved : goal.loop-block-preserved
loop-block-preserved g c = (
  length-set c.loop-block.table c.loop-block.block c.copy_from.new.self ∙ c.loop-block.invariant.0,
  turned_more g.B.BySet.value (2 ^ g.B.BySet.places) (in_block g.B.BySet.value c.args.table.now) (λ (b s : ℕ). in_block g.B.BySet.value c.args.others.now b s)
      c.loop-block.block c.loop-block.table c.copy_from.new.self (omega (arith, c.loop-block.invariant.0, c.loop-block-test.true))
      (λ set lt. omega (
        arith,
        c.copy_from.ensures set lt,
        value_read g.B.BySet.value c.args.others.now c.loop-block.block set c.index-others-block.result (omega (arith, c.requires.same, c.loop-block-test.true)) c.index-others-block.is,
      ))
      c.loop-block.invariant.1,
)

pub returns-clause-each : goal.returns-clause-each
returns-clause-each g c = turned_all g.B.BySet.places (length c.args.table.now) c.loop-block.block c.loop-block-test.false c.loop-block.invariant.1
