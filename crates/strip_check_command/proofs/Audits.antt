-- What is claimed of the check of a plan.
use Rattle.std.proofs.Common.{◌≡◌, ◌∙◌, inl, inr, ◌<◌, ◌≤◌, ℕ, List, Option, Result, Ok, Err, IfOk, refl, sym, subst, ap, arith}
use Rattle.std.proofs.lemmas.Bool.{cases_lt}
use Rattle.strip_model.specs.Data.{InstanceData}
use Rattle.strip_model.specs.FilmOf.{film_of}
use Rattle.strip_reduce.specs.Reduction.{class_count}
use Rattle.strip_text.specs.Told.{ToldData}
use Rattle.strip_words.specs.Words.{Word}
use Rattle.strip_words.specs.Plans.{PlanFilesData}
use Rattle.strip_words.proofs.Planning.{files_once}
use Rattle.strip_proof.specs.Plan.{PlanData}
use Rattle.strip_check.specs.declared.verdict.Verdict.{Verdict}
use Rattle.strip_check.specs.declared.verdict.Verdict.TheVariants.{Accepted, Refused}
use Rattle.strip_check.specs.Accepted.{IsAccepted, IsTruePlan}
use Rattle.strip_check.specs.Reasons.{verdict_of}
use Rattle.strip_answer.specs.declared.answer.Answer.{Answer}
use Rattle.strip_answer.specs.declared.status.Status.{Status}
use Rattle.strip_answer.specs.declared.status.Status.TheVariants.{Done, NoJob, Bounded, NotAccepted, BadInstance, BadPlan, ReadFault, WriteFault, OutOfMemory}
use Rattle.strip_answer.specs.Ending.{answer_text}
use Rattle.strip_answer.specs.Rows.{error_row}
use Rattle.strip_answer.specs.Status.{code_of}
use Rattle.strip_io.specs.Files.{FilesData}
use Rattle.strip_answer.specs.Run.{IsOutcome, RunData}
use Rattle.strip_answer.specs.Claims.{AsksFor, IsDue}
use Rattle.strip_answer.specs.Headline.{IsHeadline}
use Rattle.strip_answer.proofs.Endings.{AreShown, IsOfJob}
use Rattle.strip_answer.specs.Both.{FilmSays, PlanSays, ways_due}
use Rattle.strip_answer.specs.Input.{HasInput}
use Rattle.strip_answer.specs.Said.{film_said, plan_said, too_many_told}
use Rattle.strip_answer.proofs.Ways.{due_by, due_told, due_unfit}
use Rattle.strip_check_command.specs.Audit.{IsAudited, status_of, verdict_text}
use Rattle.strip_check_command.specs.Claims.{IsAuditDue, IsAuditFit, IsAuditStatus, IsAuditUnfit, IsProved, NameFiles, audit_claims}

never_done : {A : Type 0} (status : Status) → status ≡ BadInstance → status ≡ Done → A
never_done status is done = absurd (let e : BadInstance ≡ Done = sym is ∙ done in cc)

accepted_so : (verdict : Verdict) → status_of verdict ≡ Done → verdict ≡ Accepted
accepted_so Accepted is = refl
accepted_so (Refused reason) is = absurd (let e : NotAccepted ≡ Done = is in cc)

-- a verdict that is told
pub verdict_told : {E : Type 0} (inst : InstanceData) (plan : PlanData) (verdict : Verdict) (r : Result Answer E) → class_count (film_of inst) ≤ 64
    → verdict ≡ verdict_of (film_of inst) plan → (verdict ≡ Accepted → IsAccepted (film_of inst) plan × IsTruePlan (film_of inst) plan)
    → IfOk r (λ answer. answer.status ≡ status_of verdict) → IfOk r (λ answer. answer_text answer ≡ verdict_text verdict)
    → IfOk r (λ answer. IsAudited inst plan answer.status (answer_text answer))
verdict_told inst plan verdict (Ok answer) few is holds status text = record {
  verdict = λ _. (status ∙ ap status_of is, text ∙ ap verdict_text is);
  too_many = λ many. absurd (omega (arith, few, many));
  accepted = λ done. holds (accepted_so verdict (sym status ∙ done));
}
verdict_told inst plan verdict (Err e) few is holds status text = tt

-- too many classes, told
pub many_told : {E : Type 0} (inst : InstanceData) (plan : PlanData) (count : ℕ) (r : Result Answer E) → 64 < count → count ≡ class_count (film_of inst)
    → IfOk r (λ answer. answer.status ≡ BadInstance) → IfOk r (λ answer. answer_text answer ≡ error_row (too_many_told count))
    → IfOk r (λ answer. IsAudited inst plan answer.status (answer_text answer))
many_told inst plan count (Ok answer) many is status text = record {
  verdict = λ few. absurd (omega (arith, many, is, few));
  too_many = λ _. (status, text ∙ ap (λ n. error_row (too_many_told n)) is);
  accepted = λ done. never_done answer.status status done;
}
many_told inst plan count (Err e) many is status text = tt

status_so : (verdict : Verdict) → IsAuditStatus (status_of verdict)
status_so Accepted = inl refl
status_so (Refused reason) = inr refl

answers_so : (status : Status) → IsAuditStatus status → IsOfJob status
answers_so status (inl done) = subst IsOfJob (sym done) tt
answers_so status (inr refused) = subst IsOfJob (sym refused) tt

audited_answers : (inst : InstanceData) (plan : PlanData) (status : Status) (printed : List ℕ) → IsAudited inst plan status printed → IsOfJob status
audited_answers inst plan status printed audited = elim (cases_lt 64 (class_count (film_of inst))) [
  | inl many ↦ subst IsOfJob (sym (audited.too_many many).0) tt
  | inr few ↦ answers_so status (subst IsAuditStatus (sym (audited.verdict few).0) (status_so (verdict_of (film_of inst) plan)))
]

module _ (files : PlanFilesData) (before after : FilesData) (status : Status) (printed : List ℕ) (due : IsAuditDue files before after status printed) where
  pub audit_answers : IsOfJob status
  audit_answers = due_by IsAudited files.film files.plan before after status printed IsOfJob tt tt (λ inst its. audited_answers inst its status printed) due

  pub audit_fit : IsAuditFit files before → IsAuditStatus status
  audit_fit (inst, its, told, few) =
      let audited = (due_told IsAudited files.film files.plan before after status printed inst its told due).1 in
      subst IsAuditStatus (sym (audited.verdict few).0) (status_so (verdict_of (film_of inst) its))

  pub audit_unfit : (why : Status) → IsAuditUnfit files before why → status ≡ why
  audit_unfit why (inl unfit) = due_unfit IsAudited files.film files.plan before after status printed why unfit due
  audit_unfit why (inr ((inst, its, told, many), is)) =
      ((due_told IsAudited files.film files.plan before after status printed inst its told due).1.too_many many).0 ∙ sym is

pub audit_shown : AreShown audit_claims
audit_shown = record {
  once = λ words a b one two. files_once _ _ a b one two;
  answers = audit_answers;
  fit = λ files before after status printed fit due. audit_fit files before after status printed due fit;
  unfit = λ files before after status why printed unfit due. audit_unfit files before after status printed due why unfit;
}

-- where an accepted plan is told, what it says is proved
pub proves : (words : List Word) (files : PlanFilesData) (before after : FilesData) (printed : List ℕ) → NameFiles words files
    → IsAuditDue files before after Done printed → IsProved words before
proves words files before after printed named (middle, same, has) = by_film (film_said has.text) refl has.holds
  where
    by_plan : (inst : InstanceData) → film_said has.text ≡ Ok inst
        → (plans : HasInput files.plan 1_073_741_824 middle after (λ text. PlanSays (ways_due IsAudited Done printed) inst (plan_said inst text)))
        → (said : Result PlanData (Option ToldData)) → plan_said inst plans.text ≡ said → PlanSays (ways_due IsAudited Done printed) inst said → IsProved words before
    by_plan inst film_is plans (Ok plan) plan_is says = record {
      files = files;
      named = named;
      film_text = has.text;
      film_told = has.told;
      plan_text = plans.text;
      plan_told = λ bytes told. plans.told bytes (ap (λ bytes. bytes files.plan) same ∙ told);
      inst = inst;
      film_says = film_is;
      plan = plan;
      plan_says = plan_is;
      accepted = (says.1.accepted refl).0;
      true_plan = (says.1.accepted refl).1;
    }
    by_plan inst film_is plans (Err told) plan_is says = absurd (let e = says.0 in cc)

    by_film : (said : Result InstanceData (Option ToldData)) → film_said has.text ≡ said → FilmSays (ways_due IsAudited Done printed) files.plan middle after said
        → IsProved words before
    by_film (Ok inst) is says = by_plan inst is says.1 (plan_said inst says.1.text) refl says.1.holds
    by_film (Err told) is says = absurd (let e = says.1.0 in cc)

done_by : (status : Status) → code_of status ≡ 0 → status ≡ Done
done_by Done is = refl
done_by NoJob is = absurd (let e : 2 ≡ 0 = is in omega (arith, e))
done_by Bounded is = absurd (let e : 3 ≡ 0 = is in omega (arith, e))
done_by NotAccepted is = absurd (let e : 4 ≡ 0 = is in omega (arith, e))
done_by BadInstance is = absurd (let e : 5 ≡ 0 = is in omega (arith, e))
done_by BadPlan is = absurd (let e : 6 ≡ 0 = is in omega (arith, e))
done_by ReadFault is = absurd (let e : 7 ≡ 0 = is in omega (arith, e))
done_by WriteFault is = absurd (let e : 8 ≡ 0 = is in omega (arith, e))
done_by OutOfMemory is = absurd (let e : 9 ≡ 0 = is in omega (arith, e))

-- a run that ends with the status 0 proves what the plan says
pub run_proves : (run : RunData) (code : ℕ) → IsHeadline audit_claims run code → code ≡ 0 → IsProved run.words run.files_before
run_proves run code holds is =
    let done = done_by holds.status (sym holds.exit_status ∙ is) in
    let outcome : IsOutcome run (AsksFor audit_claims run.words run.files_before) (IsDue audit_claims run.words run.files_before run.files_after) Done
    = subst (IsOutcome run (AsksFor audit_claims run.words run.files_before) (IsDue audit_claims run.words run.files_before run.files_after)) done holds.outcome in
    by outcome.0 outcome.1
  where
    by : (printed : List ℕ) → IsDue audit_claims run.words run.files_before run.files_after Done printed → IsProved run.words run.files_before
    by printed (inl none) = absurd (let e = none.1 in cc)
    by printed (inr (files, named, due)) = proves run.words files run.files_before run.files_after printed named due
