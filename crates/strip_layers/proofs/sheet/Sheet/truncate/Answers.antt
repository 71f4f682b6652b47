use Rattle.std.proofs.Common.{◌∙◌, ap, sym, take}
use Rattle.std.proofs.lemmas.List.{take-map}
use Rattle.strip_film.specs.declared.shared.Line.{Line}
use Rattle.strip_layers.proofs.Sets.{sets}
use Rattle.strip_layers.proofs.sheet.Sheet.truncate.Goals as goal

pub invariant_of-self : goal.invariant_of-self
invariant_of-self c = record {
  by_set = c.truncate-2.ensures.keys
      ∙ ap (take c.args.count) c.args.self.now.by_set
      ∙ take-map (λ (line : Line). line.set) c.args.count c.args.self.now.lines.items
      ∙ sym (ap sets c.truncate.ensures.items);
}
