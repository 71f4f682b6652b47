use Rattle.strip_words.specs.Shown.{items_data}
use Rattle.strip_words.proofs.Given.{none_found}
use Rattle.strip_words.proofs.options.is_left_out.Goals as goal

pub returns : goal.returns
returns c =
    none_found c.args.name.now (items_data c.args.items.now) c.value_of.result c.is_none.result c.is_none.ensures c.value_of.ensures.some c.value_of.ensures.none
