-- The plan of the order of the rows, printed or refused.
use Rattle.std.proofs.Common.{◌≡◌, ◌∙◌, ◌↔◌, inl, inr, ◌<◌, ◌≤◌, ℕ, [], codes, Ok, Err, IfOk, Result, sym, subst, ap, arith}
use Rattle.strip_model.specs.Data.{InstanceData}
use Rattle.strip_model.specs.FilmOf.{film_of}
use Rattle.strip_reduce.specs.Reduction.{class_count}
use Rattle.strip_proof.specs.Plan.{PlanData}
use Rattle.strip_proof.specs.Rows.{bare_text}
use Rattle.strip_proof.specs.Text.{HasReadableScenes, IsReadablePlan, says}
use Rattle.strip_check.specs.declared.verdict.Reason.{Reason}
use Rattle.strip_check.specs.declared.verdict.Verdict.TheVariants.{Accepted, Refused}
use Rattle.strip_check.specs.Accepted.{IsAccepted, IsTruePlan}
use Rattle.strip_check.specs.Reasons.{verdict_of}
use Rattle.strip_check.specs.Told.{told_of}
use Rattle.strip_solve.specs.Priced.{priced_plan}
use Rattle.strip_solve.proofs.Priced.{priced_accepted, priced_readable}
use Rattle.strip_answer.specs.declared.answer.Answer.{Answer}
use Rattle.strip_answer.specs.declared.status.Status.TheVariants.{Done, NotAccepted, BadInstance}
use Rattle.strip_answer.specs.Ending.{answer_text}
use Rattle.strip_answer.specs.Rows.{error_row, told_row}
use Rattle.strip_answer.specs.Said.{IsSaidFilm, too_many_told}
use Rattle.strip_commands.specs.Price.{IsPriced}

module _ {E : Type 0} (inst : InstanceData) where
  -- the answer that prints a plan which the checker accepts
  pub plan_priced : (plan : PlanData) (r : Result Answer E) → IsSaidFilm inst → class_count (film_of inst) ≤ 64 → plan ≡ priced_plan (film_of inst)
      → IsAccepted (film_of inst) plan → IsTruePlan (film_of inst) plan
      → ((inst : InstanceData) (plan : PlanData) → HasReadableScenes inst → IsReadablePlan inst plan → says inst (bare_text inst plan) ≡ Ok (record plan { lines = [] }))
      → IfOk r (λ answer. answer.status ≡ Done) → IfOk r (λ answer. answer_text answer ≡ bare_text inst plan)
      → IfOk r (λ answer. IsPriced inst answer.status (answer_text answer))
  plan_priced plan (Ok answer) said few is accepted true_plan back ends text =
      let own = priced_plan (film_of inst) in
      let is_own = subst (IsAccepted (film_of inst)) is accepted in
      let readable = priced_readable inst said.is_instance (subst (IsTruePlan (film_of inst)) is true_plan) in
      let printed = text ∙ ap (bare_text inst) is in
      record {
        plan = λ _. inl (record {
          kept = is_own.order;
          done = ends;
          text = printed;
          same = ap (says inst) printed ∙ back inst own said.scenes readable;
          accepted = is_own;
        });
        too_many = λ many. absurd (omega (arith, few, many));
      }
  plan_priced plan (Err e) said few is accepted true_plan back ends text = tt

  -- the answer that tells the reason against it
  pub plan_broken : (plan : PlanData) (reason : Reason) (r : Result Answer E) → class_count (film_of inst) ≤ 64 → plan ≡ priced_plan (film_of inst)
      → Refused reason ≡ verdict_of (film_of inst) plan → (Refused reason ≡ Accepted) ↔ IsAccepted (film_of inst) plan
      → IfOk r (λ answer. answer.status ≡ NotAccepted) → IfOk r (λ answer. answer_text answer ≡ told_row (codes "refused") (told_of reason))
      → IfOk r (λ answer. IsPriced inst answer.status (answer_text answer))
  plan_broken plan reason (Ok answer) few is verdict accepted ends text = record {
    plan = λ _. inr (record {
      broken = λ kept. never (accepted.1 (subst (IsAccepted (film_of inst)) (sym is) (priced_accepted (film_of inst) kept)));
      refused = ends;
      reason = reason;
      verdict = ap (verdict_of (film_of inst)) (sym is) ∙ sym verdict;
      text = text;
    });
    too_many = λ many. absurd (omega (arith, few, many));
  }
    where
      never : ¬ (Refused reason ≡ Accepted)
      never same = (let e : Refused reason ≡ Accepted = same in cc)
  plan_broken plan reason (Err e) few is verdict accepted ends text = tt

  -- the answer to an instance with too many classes
  pub many_priced : (count : ℕ) (r : Result Answer E) → 64 < count → count ≡ class_count (film_of inst)
      → IfOk r (λ answer. answer.status ≡ BadInstance) → IfOk r (λ answer. answer_text answer ≡ error_row (too_many_told count))
      → IfOk r (λ answer. IsPriced inst answer.status (answer_text answer))
  many_priced count (Ok answer) many is status text = record {
    plan = λ few. absurd (omega (arith, many, is, few));
    too_many = λ _. (status, text ∙ ap (λ n. error_row (too_many_told n)) is);
  }
  many_priced count (Err e) many is status text = tt
