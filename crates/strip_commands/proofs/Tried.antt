-- A film that was made: printed, and tried.
use Rattle.std.proofs.Common.{◌≡◌, ◌∙◌, ◌<◌, ◌≤◌, ℕ, List, Result, Ok, Err, IfOk, sym, ap, subst, arith}
use Rattle.strip_model.specs.Data.{InstanceData}
use Rattle.strip_model.specs.FilmOf.{film_of}
use Rattle.strip_reduce.specs.Reduction.{class_count}
use Rattle.strip_instance.specs.Text.{HasReadableNames, says}
use Rattle.strip_instance.specs.Canonical.{canonical_text}
use Rattle.strip_proof.specs.Plan.{PlanData}
use Rattle.strip_solve.specs.Solved.{IsSolved}
use Rattle.strip_words.specs.Gen.{GenData, TrialData}
use Rattle.strip_answer.specs.declared.answer.Answer.{Answer}
use Rattle.strip_answer.specs.declared.status.Status.TheVariants.{Done, BadInstance}
use Rattle.strip_answer.specs.Ending.{answer_text}
use Rattle.strip_answer.specs.Rows.{error_row}
use Rattle.strip_answer.specs.Said.{too_many_told}
use Rattle.strip_commands.specs.Plan.{exit_of}
use Rattle.strip_commands.specs.Made.{IsGenDue, IsTrialDue, made_of, trial_row}
use Rattle.strip_commands.proofs.Printed.{solved_accepted}

pub film_printed : (film : GenData) (inst : InstanceData) (text : List ℕ) (answer : Answer) → inst ≡ made_of film → HasReadableNames (made_of film)
    → text ≡ canonical_text inst → (HasReadableNames inst → says text ≡ Ok inst) → answer.status ≡ Done → answer_text answer ≡ text
    → IsGenDue film answer.status (answer_text answer)
film_printed film inst text answer made names canonical back done printed = record {
  done = done;
  text = printed ∙ canonical ∙ ap canonical_text made;
  same = ap says printed ∙ back (subst HasReadableNames (sym made) names) ∙ ap Ok made;
}

module _ {E : Type 0} (job : TrialData) (inst : InstanceData) where
  -- the answer to a film that was solved
  pub trial_answer : (plan : PlanData) (r : Result Answer E) → inst ≡ made_of job.film → class_count (film_of inst) ≤ 64
      → IsSolved job.kind (film_of inst) job.nodes plan → IfOk r (λ answer. answer.status ≡ exit_of plan.status)
      → IfOk r (λ answer. answer_text answer ≡ trial_row job.film (class_count (film_of inst)) plan)
      → IfOk r (λ answer. IsTrialDue job answer.status (answer_text answer))
  trial_answer plan (Ok answer) made few solved ends text =
      let own = subst (λ i. IsSolved job.kind (film_of i) job.nodes plan) made solved in
      let same : class_count (film_of inst) ≡ class_count (film_of (made_of job.film)) = ap (λ i. class_count (film_of i)) made in
      record {
        tried = λ _. record {
          plan = plan;
          solved = own;
          accepted = solved_accepted job.kind (film_of (made_of job.film)) job.nodes plan own;
          ends = ends;
          text = text ∙ ap (λ n. trial_row job.film n plan) same;
        };
        too_many = λ many. absurd (omega (arith, few, many, same));
      }
  trial_answer plan (Err e) made few solved ends text = tt

  -- the answer to one with too many classes
  pub many_tried : (count : ℕ) (r : Result Answer E) → inst ≡ made_of job.film → 64 < count → count ≡ class_count (film_of inst)
      → IfOk r (λ answer. answer.status ≡ BadInstance) → IfOk r (λ answer. answer_text answer ≡ error_row (too_many_told count))
      → IfOk r (λ answer. IsTrialDue job answer.status (answer_text answer))
  many_tried count (Ok answer) made many is status text =
      let same : count ≡ class_count (film_of (made_of job.film)) = is ∙ ap (λ i. class_count (film_of i)) made in
      record {
        tried = λ few. absurd (omega (arith, many, same, few));
        too_many = λ _. (status, text ∙ ap (λ n. error_row (too_many_told n)) same);
      }
  many_tried count (Err e) made many is status text = tt
