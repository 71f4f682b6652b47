use Rattle.std.proofs.lemmas.List.Elements.{All-more}
use Rattle.strip_words.specs.Words.{Word}
use Rattle.strip_words.specs.Options.{Gives}
use Rattle.strip_words.specs.Shown.{item_data}
use Rattle.strip_words.proofs.Given.{left_out}
use Rattle.strip_words.proofs.options.value_of.Goals as goal

pub loop-item-preserved : goal.loop-item-preserved
loop-item-preserved c =
    All-more (λ item. (value : Word) → ¬ Gives c.args.name.now value (item_data item)) c.args.items.now c.loop-item.item-index _
    c.loop-item-test.true c.loop-item.invariant c.in_default.ensures.none

pub returns-clause-none : goal.returns-clause-none
returns-clause-none c = left_out c.args.name.now c.args.items.now c.loop-item.item-index c.loop-item-test.false c.loop-item.invariant
