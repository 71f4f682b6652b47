use Rattle.std.proofs.Common.{◌≡◌, ◌∙◌, List, length, None, Some, subst, sym}
use Rattle.strip_film.specs.declared.shared.Line.{Line}
use Rattle.strip_lines.specs.Lines.{rules_of}
use Rattle.strip_proof.specs.Plan.{plan_data}
use Rattle.strip_text.specs.Checks.{below, first_fault}
use Rattle.strip_check.specs.Reasons.{bound_checks, end_checks, line_check}
use Rattle.strip_check.proofs.Places.{found_before, past_before}
use Rattle.strip_check.proofs.proof.against_bounds.Goals as goal

pub returns-in-Some : goal.returns-in-Some
returns-in-Some g c =
    let rules = rules_of g.N.Bounded.kind g.N.Bounded.film in
    let lines : List Line = c.args.plan.now.lines.items in
    found_before (below (length lines) (line_check rules lines)) (end_checks rules c.args.apart (plan_data c.args.plan.now)) c.in-Some.reason
    (subst (λ (list : List Line). Some c.in-Some.reason ≡ first_fault (below (length list) (line_check rules list))) c.deref-2.ensures.value c.in-Some.ensures.first)
    ∙ (λ i. first_fault (bound_checks (rules_of (sym c.requires.kind i) (sym c.requires.film i)) c.args.apart (plan_data c.args.plan.now)))

pub returns : goal.returns
returns g c =
    let rules = rules_of g.N.Bounded.kind g.N.Bounded.film in
    let lines : List Line = c.args.plan.now.lines.items in
    c.against_end.ensures
    ∙ past_before (below (length lines) (line_check rules lines)) (end_checks rules c.args.apart (plan_data c.args.plan.now))
    (subst (λ (list : List Line). None ≡ first_fault (below (length list) (line_check rules list))) c.deref-2.ensures.value c.in_default.ensures.first)
    ∙ (λ i. first_fault (bound_checks (rules_of (sym c.requires.kind i) (sym c.requires.film i)) c.args.apart (plan_data c.args.plan.now)))
