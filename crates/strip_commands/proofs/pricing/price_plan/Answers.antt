use Rattle.std.proofs.Common.{◌≡◌, ◌∙◌, ◌↔◌, sym, subst}
use Rattle.strip_model.specs.FilmOf.{film_of}
use Rattle.strip_proof.specs.Plan.{plan_data}
use Rattle.strip_check.specs.declared.verdict.Verdict.{Verdict}
use Rattle.strip_check.specs.declared.verdict.Verdict.TheVariants.{Accepted}
use Rattle.strip_check.specs.Accepted.{IsAccepted}
use Rattle.strip_commands.proofs.Priced.{plan_broken, plan_priced}
use Rattle.strip_commands.proofs.pricing.price_plan.Goals as goal

pub returns-in-Ok-Accepted : goal.returns-in-Ok-Accepted
returns-in-Ok-Accepted c =
    let says = c.in-Ok-Accepted in
    plan_priced c.args.inst.now (plan_data c.args.plan.now) c.print_plan.result c.requires.said c.requires.few c.requires.priced
    (says.ensures.accepted.0 says.field-0-is) (says.ensures.true_plan says.field-0-is) c.written_plans_read_back.ensures.bare
    c.print_plan.ensures.status c.print_plan.ensures.text

pub returns-in-Ok-Refused : goal.returns-in-Ok-Refused
returns-in-Ok-Refused c =
    let says = c.in-Ok-Refused in
    let accepted = subst (λ (verdict : Verdict). (verdict ≡ Accepted) ↔ IsAccepted (film_of c.args.inst.now) (plan_data c.args.plan.now)) says.field-0-is says.ensures.accepted in
    plan_broken c.args.inst.now (plan_data c.args.plan.now) says.reason c.refused.result c.requires.few c.requires.priced
    (sym says.field-0-is ∙ says.ensures.verdict) accepted c.refused.ensures.status c.refused.ensures.text
