use Rattle.std.proofs.Common.{sym, ◌∙◌}
use Rattle.strip_model.proofs.Knowing.{stands_to-is}
use Rattle.strip_model.proofs.befores.Befores.stands.Goals as goal

pub returns : goal.returns
returns c = λ pairs knows. (
  λ yes. (knows.stands c.args.pair.first c.args.pair.then c.requires.first c.requires.then).0 (stands_to-is c.args.self.now c.args.pair.first c.args.pair.then ∙ sym c.has.ensures ∙ yes),
  λ there. c.has.ensures ∙ sym (stands_to-is c.args.self.now c.args.pair.first c.args.pair.then) ∙ (knows.stands c.args.pair.first c.args.pair.then c.requires.first c.requires.then).1 there,
)
