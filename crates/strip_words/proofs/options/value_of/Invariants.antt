use Rattle.std.proofs.Common.{All, take}
use Rattle.strip_words.specs.Words.{Word}
use Rattle.strip_words.specs.Options.{Gives}
use Rattle.strip_words.specs.Shown.{item_data}
use Rattle.strip_words.proofs.options.value_of.Given as goal

abbrev pub invariant-loop-item : goal.invariant-loop-item
invariant-loop-item l = All (λ item. (value : Word) → ¬ Gives l.name value (item_data item)) (take l.item-index l.items)
