use Rattle.std.proofs.Common.{inr, sym, ◌∙◌, true≢false}
use Rattle.strip_words.specs.Shown.{choice_data, items_data}
use Rattle.strip_words.proofs.Given.{not_picked}
use Rattle.strip_words.proofs.Shows.{among_from, among_yes}
use Rattle.strip_words.proofs.command.ChoiceOption.picked.Goals as goal

pub returns-in-Some-clause-ok : goal.returns-in-Some-clause-ok
returns-in-Some-clause-ok c =
    inr (c.in-Some.ensures.some, among_from c.args.self.now.choices.now c.in-Some.value.now (sym c.contains.ensures.value ∙ c.if-contains.true))

pub returns-in-Some-2-clause-bad : goal.returns-in-Some-2-clause-bad
returns-in-Some-2-clause-bad c =
    not_picked (choice_data c.args.self.now) c.in-Some.value.now (items_data c.args.items.now)
    c.requires c.in-Some.ensures.some
    (λ there. true≢false (sym (among_yes c.args.self.now.choices.now c.in-Some.value.now there) ∙ sym c.contains.ensures.value ∙ c.if-contains.false))
