use Rattle.strip_words.specs.Shown.{number_data, items_data}
use Rattle.strip_words.proofs.Results.{err_from_none}
use Rattle.strip_words.proofs.Given.{not_chosen}
use Rattle.strip_words.proofs.command.NumberOption.chosen.Goals as goal

pub returns-in-Some-clause-bad : goal.returns-in-Some-clause-bad
returns-in-Some-clause-bad c =
    err_from_none c.number_of.result _ c.ok_or.result _ _ c.ok_or.ensures.value c.number_of.ensures.none
    (not_chosen (number_data c.args.self.now) c.in-Some.value.now (items_data c.args.items.now)
    c.requires c.in-Some.ensures.some)
