use Rattle.std.proofs.Common.{◌≡◌, IfOk, subst}
use Rattle.strip_model.specs.FilmOf.{film_of}
use Rattle.strip_proof.specs.Plan.{plan_data}
use Rattle.strip_reduce.specs.Shown.{reduced_data}
use Rattle.strip_check.specs.Reasons.{order_checks, proof_checks}
use Rattle.strip_check.proofs.Places.{found_before, past_before}
use Rattle.strip_check.proofs.checking.against.Goals as goal

pub returns-in-Some : goal.returns-in-Some
returns-in-Some c =
    let plan = plan_data c.args.plan.now in
    found_before (order_checks (film_of c.args.inst.now) plan) (proof_checks (reduced_data c.args.reduced.now) plan) c.in-Some.reason c.in-Some.ensures

pub returns : goal.returns
returns c =
    let plan = plan_data c.args.plan.now in
    subst (λ found. IfOk c.against_proof.result (λ reason. reason ≡ found))
    (past_before (order_checks (film_of c.args.inst.now) plan) (proof_checks (reduced_data c.args.reduced.now) plan) c.in_default.ensures) c.against_proof.ensures
