use Rattle.std.proofs.Common.{length-set, ◌∙◌, sym, subst, arith}
use Rattle.strip_crew.specs.Spread.{IsValue}
use Rattle.strip_crew.proofs.Taken.{answered_all, answered_more, answered_value}
use Rattle.strip_crew.proofs.Spread.{value_of_ask}
use Rattle.strip_crew.proofs.answering.take_values.Goals as goal

pub loop-number-preserved : goal.loop-number-preserved
loop-number-preserved c = record {
  count = length-set c.loop-number.asks c.loop-number.number c.take_value.new.ask ∙ c.loop-number.invariant.count;
  answered = λ kind film are. answered_more kind film c.args.asks.now c.loop-number.asks c.loop-number.number c.take_value.new.ask
      (c.loop-number.invariant.answered kind film are) (omega arith)
      (λ d. answered_value kind film c.args.asks.now c.loop-number.asks c.loop-number.number _ c.take_value.new.ask d _
      (c.loop-number.invariant.answered kind film are) (omega arith)
      (subst (IsValue kind film c.args.asks.now c.loop-number.number) (sym c.index.ensures)
      (value_of_ask kind film c.args.asks.now c.args.workers c.loop-number.number c.args.shares.now c.index-shares-number.result c.index.result.now are (omega arith) (omega arith)))
      (c.take_value.ensures kind film));
}

pub returns : goal.returns
returns c = λ kind film are. answered_all kind film c.args.asks.now c.loop-number.asks c.loop-number.number
    (c.loop-number.invariant.answered kind film are) (omega arith)
