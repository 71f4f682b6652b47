use Rattle.strip_words.specs.Shown.{free_data, items_data}
use Rattle.strip_words.proofs.Given.{not_given}
use Rattle.strip_words.proofs.command.FreeOption.given.Goals as goal

pub returns-in-None-number_of-clause-bad : goal.returns-in-None-number_of-clause-bad
returns-in-None-number_of-clause-bad c =
    not_given (free_data c.args.self.now) c.in-Some.value.now (items_data c.args.items.now) c.requires c.in-Some.ensures.some
    c.in-None-number_of.ensures.none
