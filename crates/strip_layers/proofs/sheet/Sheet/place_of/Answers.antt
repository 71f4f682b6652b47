use Rattle.std.proofs.Common.{◌∙◌, ap, nat_eq}
use Rattle.std.specs.List.{position}
use Rattle.strip_layers.proofs.Sets.{place_by_set}
use Rattle.strip_layers.proofs.sheet.Sheet.place_of.Goals as goal

pub returns : goal.returns
returns c =
    c.get_index_of.ensures.index ∙ ap (position (nat_eq c.args.q.0)) c.args.self.now.by_set ∙ place_by_set c.args.q.0 c.args.self.now.lines.items
