use Rattle.std.proofs.Common.{◌≡◌, Ok, Err, Result, IsErrAnd, inr, refl, sym, ap, ◌∙◌}
use Rattle.strip_answer.specs.declared.ending.Stop.{Stop}
use Rattle.strip_answer.specs.declared.ending.Stop.TheVariants.{Read}
use Rattle.strip_answer.proofs.Due.{given_said}
use Rattle.strip_answer.proofs.Given.{both_given, film_refused, plan_refused}
use Rattle.strip_answer.proofs.Ways.{failed_later, may_say, stays_both}
use Rattle.strip_answer.proofs.both.both_said.Goals as goal

-- what was answered is no failed read
fine : {T : Type 0} (x : T) (r : Result T Stop) → r ≡ Ok x → r ≡ Err Read → ⊥
fine x r is failed = let e : Ok x ≡ Err Read = sym is ∙ failed in cc

-- a failed read that is handed on
handed_on : {T U : Type 0} (r : Result T Stop) (s : Result U Stop) (e : Stop) → r ≡ Err e → IsErrAnd s (λ other. other ≡ e) → r ≡ Err Read → s ≡ Err Read
handed_on r (Ok x) e was is failed = absurd is
handed_on r (Err other) e was is failed =
    let same : Err e ≡ Err Read = sym was ∙ failed in
    let read : e ≡ Read = cc in
    ap Err (is ∙ read)

pub returns-in-Refused-clause-given : goal.returns-in-Refused-clause-given
returns-in-Refused-clause-given g c =
    film_refused _ c.args.plan.now _ _ c.in_ok-inst.field-0 c.in-Refused.answer c.in-Refused.is c.in_ok-inst.ensures.files.told c.in_ok-inst.ensures.given

handed_back : {T U : Type 0} (r : Result T Stop) (s : Result U Stop) (e : Stop) → r ≡ Err e → IsErrAnd s (λ other. other ≡ e) → s ≡ Err Read → r ≡ Err Read
handed_back r (Ok x) e was is failed = absurd is
handed_back r (Err other) e was is failed =
    let read : other ≡ Read = cc in
    was ∙ ap Err (sym is ∙ read)

pub returns-in_err-plan-clause-read : goal.returns-in_err-plan-clause-read
returns-in_err-plan-clause-read g c = λ is.
    let failed = handed_back c.plan_input.result _ c.in_err-plan.field-0.0 c.in_err-plan.was c.from_residual-in_err-plan.ensures.1 is in
    let well = c.in_ok-inst.ensures.files.unfailed (fine c.in_ok-inst.field-0 (Ok c.in_ok-inst.field-0) refl) in
    (c.args.plan.now, inr (refl, may_say c.args.film.now _ _ c.in_ok-inst.field-0 c.in-Said.inst c.in-Said.is c.in_ok-inst.ensures.given), failed_later c.args.plan.now (g.F.Files.state c.args.files.now) (g.F.Files.state c.film_input.new.files) (g.F.Files.state c.plan_input.new.files) c.in_ok-inst.ensures.files.held well (c.plan_input.ensures.read failed))

pub returns-in_err-plan-clause-files : goal.returns-in_err-plan-clause-files
returns-in_err-plan-clause-files g c =
    stays_both c.args.film.now c.args.plan.now _ _ _ _ _ _ c.in_ok-inst.ensures.files c.plan_input.ensures.files (may_say c.args.film.now _ _ c.in_ok-inst.field-0 c.in-Said.inst c.in-Said.is c.in_ok-inst.ensures.given) (fine c.in_ok-inst.field-0 (Ok c.in_ok-inst.field-0) refl)
    (handed_on c.plan_input.result _ c.in_err-plan.field-0.0 c.in_err-plan.was c.from_residual-in_err-plan.ensures.1)

pub returns-in-Said-2-clause-given : goal.returns-in-Said-2-clause-given
returns-in-Said-2-clause-given g c =
    both_given _ _ _ _ _ c.in_ok-inst.field-0 c.in-Said.inst c.in-Said.is c.in_ok-inst.ensures.files.told c.in_ok-inst.ensures.given c.in_ok-plan.field-0 c.in-Said-2.plan
    c.in-Said-2.is c.in_ok-plan.ensures.given

pub returns-in-Said-2-clause-files : goal.returns-in-Said-2-clause-files
returns-in-Said-2-clause-files g c =
    stays_both c.args.film.now c.args.plan.now _ _ _ _ _ _ c.in_ok-inst.ensures.files c.in_ok-plan.ensures.files (may_say c.args.film.now _ _ c.in_ok-inst.field-0 c.in-Said.inst c.in-Said.is c.in_ok-inst.ensures.given) (fine c.in_ok-inst.field-0 (Ok c.in_ok-inst.field-0) refl)
    (λ failed. absurd (fine c.in_ok-plan.field-0 (Ok c.in_ok-plan.field-0) refl failed))

pub returns-in-Refused-2-clause-given : goal.returns-in-Refused-2-clause-given
returns-in-Refused-2-clause-given g c =
    plan_refused _ _ _ _ _ c.in_ok-inst.field-0 c.in-Said.inst c.in-Said.is c.in_ok-inst.ensures.files.told c.in_ok-inst.ensures.given c.in_ok-plan.field-0 c.in-Refused-2.answer
    c.in-Refused-2.is c.in_ok-plan.ensures.given

pub returns-in-Refused-2-clause-files : goal.returns-in-Refused-2-clause-files
returns-in-Refused-2-clause-files g c =
    stays_both c.args.film.now c.args.plan.now _ _ _ _ _ _ c.in_ok-inst.ensures.files c.in_ok-plan.ensures.files (may_say c.args.film.now _ _ c.in_ok-inst.field-0 c.in-Said.inst c.in-Said.is c.in_ok-inst.ensures.given) (fine c.in_ok-inst.field-0 (Ok c.in_ok-inst.field-0) refl)
    (λ failed. absurd (fine c.in_ok-plan.field-0 (Ok c.in_ok-plan.field-0) refl failed))

pub returns-in-Said-2-clause-said : goal.returns-in-Said-2-clause-said
returns-in-Said-2-clause-said g c =
    given_said _ _ _ _ c.in-Said.inst c.in-Said-2.plan (both_given _ _ _ _ _ c.in_ok-inst.field-0 c.in-Said.inst c.in-Said.is c.in_ok-inst.ensures.files.told
    c.in_ok-inst.ensures.given c.in_ok-plan.field-0 c.in-Said-2.plan c.in-Said-2.is c.in_ok-plan.ensures.given)
