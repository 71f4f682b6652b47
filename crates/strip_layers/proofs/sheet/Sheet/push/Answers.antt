use Rattle.std.proofs.Common.{◌≡◌, ◌∙◌, ap, arith, nat_eq, sym}
use Rattle.indexmap.specs.IndexSet.{insert_key}
use Rattle.strip_paths.proofs.Results.{on_ok}
use Rattle.strip_layers.proofs.Sets.{sets, sets_pushed}
use Rattle.strip_layers.proofs.sheet.Sheet.push.Goals as goal

pub invariant_of-self-2 : goal.invariant_of-self-2
invariant_of-self-2 c = record {
  by_set = on_ok c.insert.result (c.insert.new.self.keys ≡ insert_key nat_eq c.reserve.new.self.keys c.args.line.set)
      (c.insert.ensures.succeeds (omega (arith, c.in_ok-reserve.ensures.ok))) c.insert.ensures.keys
      ∙ sets_pushed c.reserve.new.self.keys c.args.self.now.lines.items c.args.line
      (c.reserve.ensures.keys ∙ c.args.self.now.by_set) c.requires.new
      ∙ sym (ap sets c.in_ok-push.ensures.items);
}
