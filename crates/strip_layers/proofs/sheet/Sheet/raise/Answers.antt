use Rattle.std.proofs.Common.{◌∙◌, ap, sym}
use Rattle.strip_film.specs.declared.shared.Line.{Line}
use Rattle.strip_layers.proofs.Sets.{sets_raised}
use Rattle.strip_layers.proofs.sheet.Sheet.raise.Goals as goal

pub invariant_of-self : goal.invariant_of-self
invariant_of-self c = record {
  by_set = c.args.self.now.by_set
      ∙ sym (sets_raised c.args.self.now.lines.items c.args.place
      (record { set = c.index_mut.result.now.set; bound = c.max-raised.result }) c.index_mut.result.now
      (ap (λ (line : Line). line.set) c.index_mut.ensures.value));
}
