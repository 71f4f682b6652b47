-- The commands `gen` and `trial`: a film that is made from a number, printed or solved.
use Rattle.std.specs.Prelude.{◌≡◌, ℕ, ◌<◌, ◌≤◌, List, [], ◌∷◌, codes, Ok}
use Rattle.std.specs.Fmt.{decimal}
use Rattle.strip_model.specs.Data.{InstanceData}
use Rattle.strip_model.specs.FilmOf.{film_of}
use Rattle.strip_reduce.specs.Reduction.{class_count}
use Rattle.strip_text.specs.Rows.{csv_row}
use Rattle.strip_instance.specs.Text.{says}
use Rattle.strip_instance.specs.Canonical.{canonical_text}
use Rattle.strip_proof.specs.Plan.{PlanData}
use Rattle.strip_proof.specs.Rows.{status_word}
use Rattle.strip_check.specs.Accepted.{IsAccepted}
use Rattle.strip_solve.specs.Solved.{IsSolved}
use Rattle.strip_words.specs.Gen.{GenData, TrialData}
use Rattle.strip_answer.specs.declared.status.Status.{Status}
use Rattle.strip_answer.specs.declared.status.Status.TheVariants.{Done, BadInstance}
use Rattle.strip_answer.specs.Rows.{error_row}
use Rattle.strip_answer.specs.Said.{too_many_told}
use Rattle.strip_commands.specs.Generated.{generated}
use Rattle.strip_commands.specs.Plan.{exit_of}

-- the instance that is made
abbrev pub made_of : GenData → InstanceData
made_of film = generated film.number film.scenes film.actors

-- its canonical text is printed, which says this instance
pub record IsGenDue (film : GenData) (status : Status) (printed : List ℕ) : Type 0 where
  pub done : status ≡ Done
  pub text : printed ≡ canonical_text (made_of film)
  pub same : says printed ≡ Ok (made_of film)

-- the row of a trial: the film, its classes, and the plan that was found and accepted
abbrev pub trial_row : GenData → ℕ → PlanData → List ℕ
trial_row film classes plan = csv_row (
    codes "trial" ∷ decimal film.number ∷ decimal film.scenes ∷ decimal film.actors ∷ decimal classes
    ∷ status_word plan.status ∷ decimal plan.cost ∷ decimal plan.bound ∷ decimal plan.held ∷ codes "accepted" ∷ [])

-- the row is that of a plan of the film, which is what the job asks for and which a checker accepts
pub record IsTried (job : TrialData) (status : Status) (printed : List ℕ) : Type 0 where
  pub plan : PlanData
  pub solved : IsSolved job.kind (film_of (made_of job.film)) job.nodes plan
  pub accepted : IsAccepted (film_of (made_of job.film)) plan
  pub ends : status ≡ exit_of plan.status
  pub text : printed ≡ trial_row job.film (class_count (film_of (made_of job.film))) plan

-- the row is printed, or that the film has too many classes
pub record IsTrialDue (job : TrialData) (status : Status) (printed : List ℕ) : Type 0 where
  pub tried : class_count (film_of (made_of job.film)) ≤ 64 → IsTried job status printed
  pub too_many : 64 < class_count (film_of (made_of job.film))
      → (status ≡ BadInstance) × (printed ≡ error_row (too_many_told (class_count (film_of (made_of job.film)))))
