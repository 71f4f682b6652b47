use Rattle.std.proofs.Common.{sym, ◌∙◌}
use Rattle.strip_model.proofs.Knowing.{leads_to-is}
use Rattle.strip_model.proofs.befores.Befores.leads.Goals as goal

pub returns : goal.returns
returns c = λ pairs knows. (
  λ yes. (knows.leads c.args.from c.args.to c.requires.from c.requires.to).0 (leads_to-is c.args.self.now c.args.from c.args.to ∙ sym c.has.ensures ∙ yes),
  λ leads. c.has.ensures ∙ sym (leads_to-is c.args.self.now c.args.from c.args.to) ∙ (knows.leads c.args.from c.args.to c.requires.from c.requires.to).1 leads,
)
