use Rattle.std.proofs.Common.{◌≡◌, ◌∙◌, List, IfOk, length, None, Some, ap, subst}
use Rattle.strip_model.specs.declared.kind.Kind.{Kind}
use Rattle.strip_model.specs.Film.{FilmData}
use Rattle.strip_film.specs.declared.shared.Line.{Line}
use Rattle.strip_lines.specs.Lines.{rules_of}
use Rattle.strip_proof.specs.Plan.{plan_data}
use Rattle.strip_text.specs.Checks.{below, first_fault}
use Rattle.strip_check.specs.Reasons.{bound_checks, set_check}
use Rattle.strip_check.proofs.Places.{found_before, past_before}
use Rattle.strip_check.proofs.proof.against_proof.Goals as goal

pub returns-in-Some : goal.returns-in-Some
returns-in-Some c =
    let film : FilmData = c.args.reduced.now.film in
    let lines : List Line = c.args.plan.now.lines.items in
    found_before (below (length lines) (set_check film lines)) (bound_checks (rules_of c.args.plan.now.kind film) c.args.reduced.now.apart (plan_data c.args.plan.now)) c.in-Some.reason
    (subst (λ (list : List Line). Some c.in-Some.reason ≡ first_fault (below (length list) (set_check film list))) c.deref.ensures.value c.in-Some.ensures.first)

pub returns : goal.returns
returns c =
    let film : FilmData = c.args.reduced.now.film in
    let lines : List Line = c.args.plan.now.lines.items in
    let apart = c.args.reduced.now.apart in
    let plan = plan_data c.args.plan.now in
    let same = past_before (below (length lines) (set_check film lines)) (bound_checks (rules_of c.args.plan.now.kind film) apart plan)
    (subst (λ (list : List Line). None ≡ first_fault (below (length list) (set_check film list))) c.deref.ensures.value c.in_default.ensures.first) in
    subst (λ found. IfOk c.against_bounds.result (λ reason. reason ≡ found)) same c.against_bounds.ensures
