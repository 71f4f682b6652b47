-- The text of a plan that was found.
use Rattle.std.proofs.Common.{◌≡◌, ◌∙◌, ◌↔◌, ◌<◌, ◌≤◌, ◌+◌, ℕ, Bool, true, false, Ok, Err, IfOk, Result, refl, sym, subst, ap, arith}
use Rattle.strip_model.specs.declared.kind.Kind.{Kind}
use Rattle.strip_model.specs.Film.{FilmData}
use Rattle.strip_film.specs.Film.{all_scenes}
use Rattle.strip_film.specs.Path.{PathData}
use Rattle.strip_lines.specs.Lines.{AreJustified, known}
use Rattle.strip_model.specs.Data.{InstanceData}
use Rattle.strip_model.specs.FilmOf.{film_of}
use Rattle.strip_reduce.specs.Reduction.{class_count, reduced}
use Rattle.strip_words.specs.Solve.{SolveData}
use Rattle.strip_proof.specs.declared.plan.Status.{Status as PlanStatus}
use Rattle.strip_proof.specs.declared.plan.Status.TheVariants.{Optimal, Bounded as CutShort}
use Rattle.strip_proof.specs.Plan.{PlanData}
use Rattle.strip_proof.specs.Rows.{plan_text}
use Rattle.strip_proof.specs.Text.{HasReadableScenes, IsReadablePlan, says}
use Rattle.strip_check.specs.Accepted.{IsAccepted, class_rules}
use Rattle.strip_solve.specs.Solved.{Closes, IsSolved, IsSolvedBy}
use Rattle.strip_solve.proofs.Chosen.{SolvedSomehow, solved_somehow}
use Rattle.strip_answer.specs.declared.answer.Answer.{Answer}
use Rattle.strip_answer.specs.declared.status.Status.TheVariants.{BadInstance}
use Rattle.strip_answer.specs.Ending.{answer_text}
use Rattle.strip_answer.specs.Rows.{error_row}
use Rattle.strip_answer.specs.Said.{IsSaidFilm, too_many_told}
use Rattle.strip_commands.specs.Plan.{exit_of, text_of}
use Rattle.strip_commands.specs.Solve.{IsSolveAnswer}

-- the status of a plan that was found tells whether its bound is its cost
status_tells : (kind : Kind) (film : FilmData) (most : ℕ) (begun : PathData) (plan : PlanData) (status : PlanStatus) → Closes kind film most begun plan status
    → (status ≡ Optimal) ↔ (plan.bound ≡ plan.cost)
status_tells kind film most begun plan Optimal closes = ((λ is. closes), (λ is. refl))
status_tells kind film most begun plan CutShort closes =
    ((λ is. absurd (let e : CutShort ≡ Optimal = is in cc)), (λ is. absurd (omega (arith, is, closes.below))))

-- a plan that was found is accepted by a checker
pub solved_accepted : (kind : Kind) (film : FilmData) (most : ℕ) (plan : PlanData) → IsSolved kind film most plan → IsAccepted film plan
solved_accepted kind film most plan solved = record {
  order = solved.order;
  cost = solved.cost;
  justified = subst (λ k. AreJustified (class_rules k film) plan.lines) (sym solved.same_kind) solved.proof.justified;
  reaches =
      let reached = solved.proof.reaches in
      subst (λ k. plan.bound ≤ (reduced film).apart + known (class_rules k film) plan.lines (all_scenes (reduced film).film)) (sym solved.same_kind)
      (omega (arith, reached));
  status = status_tells kind film most solved.varied plan plan.status solved.closes;
}

-- the same of a plan whose bounds were chosen or told
pub chosen_accepted : (auto : Bool) (kind : Kind) (film : FilmData) (most : ℕ) (plan : PlanData) → IsSolvedBy auto kind film most plan → IsAccepted film plan
chosen_accepted auto kind film most plan solved = by (solved_somehow auto kind film most plan solved)
  where
    by : SolvedSomehow film most plan → IsAccepted film plan
    by (some, lines, fewer, is) = solved_accepted some film lines plan is

proved_text : (proof : Bool) (inst : InstanceData) (plan : PlanData) → proof ≡ true → text_of proof inst plan ≡ plan_text inst plan
proved_text true inst plan is = refl
proved_text false inst plan is = absurd (let e : false ≡ true = is in cc)

-- the answer to an instance that is solved
pub plan_answer : {E : Type 0} (job : SolveData) (inst : InstanceData) (plan : PlanData) (r : Result Answer E) → IsSaidFilm inst
    → class_count (film_of inst) ≤ 64 → IsSolvedBy job.auto job.kind (film_of inst) job.nodes plan → IsReadablePlan inst plan
    → ((inst : InstanceData) (plan : PlanData) → HasReadableScenes inst → IsReadablePlan inst plan → says inst (plan_text inst plan) ≡ Ok plan)
    → IfOk r (λ answer. answer.status ≡ exit_of plan.status) → IfOk r (λ answer. answer_text answer ≡ text_of job.proof inst plan)
    → IfOk r (λ answer. IsSolveAnswer job inst answer.status (answer_text answer))
plan_answer job inst plan (Ok answer) said few solved readable back ends text = record {
  plan = λ _. record {
    is_instance = said.is_instance;
    plan = plan;
    solved = solved;
    ends = ends;
    text = text;
    proves = λ asked. (
      ap (says inst) (text ∙ proved_text job.proof inst plan asked) ∙ back inst plan said.scenes readable,
      chosen_accepted job.auto job.kind (film_of inst) job.nodes plan solved,
    );
  };
  too_many = λ many. absurd (omega (arith, few, many));
}
plan_answer job inst plan (Err e) said few solved readable back ends text = tt

-- the answer to one with too many classes
pub many_answer : {E : Type 0} (job : SolveData) (inst : InstanceData) (count : ℕ) (r : Result Answer E) → 64 < count → count ≡ class_count (film_of inst)
    → IfOk r (λ answer. answer.status ≡ BadInstance) → IfOk r (λ answer. answer_text answer ≡ error_row (too_many_told count))
    → IfOk r (λ answer. IsSolveAnswer job inst answer.status (answer_text answer))
many_answer job inst count (Ok answer) many is status text = record {
  plan = λ few. absurd (omega (arith, many, is, few));
  too_many = λ _. (status, text ∙ ap (λ n. error_row (too_many_told n)) is);
}
many_answer job inst count (Err e) many is status text = tt
