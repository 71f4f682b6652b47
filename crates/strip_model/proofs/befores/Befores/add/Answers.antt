use Rattle.std.proofs.Common.{◌≡◌, ◌<◌, ℕ, sym, ap, ◌∙◌, subst, arith}
use Rattle.strip_model.specs.declared.befores.Befores.{Befores}
use Rattle.strip_model.specs.Befores.{leads_to}
use Rattle.strip_model.proofs.Knowing.{leads_by, added_new, added_known}
use Rattle.strip_model.proofs.befores.Befores.add.Goals as goal
use Rattle.strip_model.proofs.befores.Befores.add.Goals.{then-not-leads, else-not-leads}

pub returns : goal.returns
returns c = λ pairs knows. elim c.if-not-leads.branch [
  | then-not-leads w ↦ added_new pairs c.args.pair c.args.self.now c.if-not-leads.self c.add.new.self c.requires.first c.requires.then knows (omega arith)
      (ap (λ (b : Befores). b.standing) w.self-is ∙ w.lead_on.ensures.standing) c.add.ensures
      (subst (λ (b : Befores). (from to : ℕ) → from < 200 → to < 200 → leads_to b from to ≡ leads_by c.args.self.now c.args.pair from to) (sym w.self-is) w.lead_on.ensures.leading)
  | else-not-leads w ↦ added_known pairs c.args.pair c.args.self.now c.if-not-leads.self c.add.new.self c.requires.first c.requires.then knows (omega arith)
      (ap (λ (b : Befores). b.standing) w.self-is) c.add.ensures (ap (λ (b : Befores). b.leading) w.self-is)
      ((c.leads.ensures pairs knows).0 w.if-not-leads.false)
]
