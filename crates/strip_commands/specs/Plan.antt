-- The plan that is printed.
use Rattle.std.specs.Prelude.{◌≡◌, ℕ, Bool, true, if◌then◌else◌, List, Ok}
use Rattle.strip_model.specs.Data.{InstanceData, IsInstance}
use Rattle.strip_model.specs.FilmOf.{film_of}
use Rattle.strip_words.specs.Solve.{SolveData}
use Rattle.strip_proof.specs.declared.plan.Status.{Status as PlanStatus}
use Rattle.strip_proof.specs.declared.plan.Status.TheVariants.{Optimal, Bounded as CutShort}
use Rattle.strip_proof.specs.Plan.{PlanData}
use Rattle.strip_proof.specs.Rows.{bare_text, plan_text}
use Rattle.strip_proof.specs.Text.{says}
use Rattle.strip_check.specs.Accepted.{IsAccepted}
use Rattle.strip_solve.specs.Solved.{IsSolvedBy}
use Rattle.strip_answer.specs.declared.status.Status.{Status}
use Rattle.strip_answer.specs.declared.status.Status.TheVariants.{Done, Bounded}

-- a plan's text, with its line rows where a proof is asked for
abbrev pub text_of : Bool → InstanceData → PlanData → List ℕ
text_of proof inst plan = if proof then plan_text inst plan else bare_text inst plan

-- the exit status of a plan
abbrev pub exit_of : PlanStatus → Status
exit_of Optimal = Done
exit_of CutShort = Bounded

-- the text is that of a plan of the instance, which is what the job asks for, and the status tells whether it is
-- optimal; the instance keeps the limits; and where a proof is asked for, the text says this plan, which a checker
-- accepts
pub record IsPlan (job : SolveData) (inst : InstanceData) (status : Status) (printed : List ℕ) : Type 0 where
  pub is_instance : IsInstance inst
  pub plan : PlanData
  pub solved : IsSolvedBy job.auto job.kind (film_of inst) job.nodes plan
  pub ends : status ≡ exit_of plan.status
  pub text : printed ≡ text_of job.proof inst plan
  pub proves : job.proof ≡ true → (says inst printed ≡ Ok plan) × IsAccepted (film_of inst) plan
