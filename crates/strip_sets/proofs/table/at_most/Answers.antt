use Rattle.std.proofs.Common.{◌^◌, ◌∙◌, ℕ, arith, length, min}
use Rattle.std.proofs.lemmas.List.{length-set}
use Rattle.strip_sets.specs.Numbers.{in_block}
use Rattle.strip_sets.proofs.Blocks.{turned_all, turned_more, value_at}
use Rattle.strip_sets.proofs.table.at_most.Goals as goal

pub loop-block-preserved : goal.loop-block-preserved
loop-block-preserved g c = (
  length-set c.loop-block.table c.loop-block.block c.at_most.new.self ∙ c.loop-block.invariant.0,
  turned_more g.B.BySet.value (2 ^ g.B.BySet.places) (in_block g.B.BySet.value c.args.table.now) (λ (b s : ℕ). min (in_block g.B.BySet.value c.args.table.now b s) c.args.limit)
      c.loop-block.block c.loop-block.table c.at_most.new.self (omega (arith, c.loop-block.invariant.0, c.loop-block-test.true))
      (λ set lt. omega (
        arith,
        c.at_most.ensures set lt,
        value_at g.B.BySet.value c.loop-block.table c.loop-block.block set c.index-table-block.result (omega (arith, c.loop-block.invariant.0, c.loop-block-test.true)),
        c.loop-block.invariant.1.left c.loop-block.block set (omega arith),
      ))
      c.loop-block.invariant.1,
)

pub returns-clause-each : goal.returns-clause-each
returns-clause-each g c = turned_all g.B.BySet.places (length c.args.table.now) c.loop-block.block c.loop-block-test.false c.loop-block.invariant.1
