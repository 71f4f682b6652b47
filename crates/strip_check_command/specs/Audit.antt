-- What is due for an instance and a plan of it.
use Rattle.std.specs.Prelude.{◌≡◌, ℕ, ◌<◌, ◌≤◌, List, [], ◌∷◌, codes}
use Rattle.strip_model.specs.Data.{InstanceData}
use Rattle.strip_model.specs.FilmOf.{film_of}
use Rattle.strip_reduce.specs.Reduction.{class_count}
use Rattle.strip_text.specs.Rows.{csv_row}
use Rattle.strip_proof.specs.Plan.{PlanData}
use Rattle.strip_check.specs.declared.verdict.Verdict.{Verdict}
use Rattle.strip_check.specs.declared.verdict.Verdict.TheVariants.{Accepted, Refused}
use Rattle.strip_check.specs.Accepted.{IsAccepted, IsTruePlan}
use Rattle.strip_check.specs.Reasons.{verdict_of}
use Rattle.strip_check.specs.Told.{told_of}
use Rattle.strip_answer.specs.declared.status.Status.{Status}
use Rattle.strip_answer.specs.declared.status.Status.TheVariants.{Done, NotAccepted, BadInstance}
use Rattle.strip_answer.specs.Rows.{error_row, told_row}
use Rattle.strip_answer.specs.Said.{too_many_told}

abbrev pub status_of : Verdict → Status
status_of Accepted = Done
status_of (Refused reason) = NotAccepted

abbrev pub verdict_text : Verdict → List ℕ
verdict_text Accepted = csv_row (codes "check" ∷ codes "accepted" ∷ [])
verdict_text (Refused reason) = told_row (codes "refused") (told_of reason)

-- the plan's verdict is told, or that the instance has too many classes; and where the status is that of an
-- accepted plan, what the plan says is true: no order of the instance that keeps its pairs pays less than its
-- bound, and its order pays its cost
pub record IsAudited (inst : InstanceData) (plan : PlanData) (status : Status) (printed : List ℕ) : Type 0 where
  pub verdict : class_count (film_of inst) ≤ 64
      → (status ≡ status_of (verdict_of (film_of inst) plan))
      × (printed ≡ verdict_text (verdict_of (film_of inst) plan))
  pub too_many : 64 < class_count (film_of inst)
      → (status ≡ BadInstance) × (printed ≡ error_row (too_many_told (class_count (film_of inst))))
  pub accepted : status ≡ Done → IsAccepted (film_of inst) plan × IsTruePlan (film_of inst) plan
