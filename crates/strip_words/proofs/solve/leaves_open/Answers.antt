use Rattle.strip_words.specs.Shown.{items_data}
use Rattle.strip_words.proofs.Leaving.{leaves_so}
use Rattle.strip_words.proofs.solve.leaves_open.Goals as goal

pub returns : goal.returns
returns c =
    leaves_so (items_data c.args.items.now) c.is_left_out.result c.is_left_out-2.result c.is_left_out-3.result c.has_flag.result
    c.is_left_out.ensures c.is_left_out-2.ensures c.is_left_out-3.ensures c.has_flag.ensures
