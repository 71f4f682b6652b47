-- What the text of a file says, and what is given of it.
use Rattle.std.specs.Prelude.{◌≡◌, ℕ, nat_le, List, length, Option, None, Some, Result, Ok, Err, codes, if◌then◌else◌}
use Rattle.strip_model.specs.Data.{InstanceData, IsInstance}
use Rattle.strip_instance.specs.Fault.{FaultData}
use Rattle.strip_instance.specs.Text.{HasReadableNames, says as film_says}
use Rattle.strip_instance.specs.Told.{told_of as film_told}
use Rattle.strip_proof.specs.declared.plan.Plan.{Plan}
use Rattle.strip_proof.specs.declared.fault.PlanFault.{PlanFault}
use Rattle.strip_proof.specs.Plan.{PlanData, plan_data}
use Rattle.strip_proof.specs.Text.{HasReadableScenes, IsReadablePlan, says as plan_says}
use Rattle.strip_proof.specs.Told.{told_of as plan_told}
use Rattle.strip_text.specs.Told.{ToldData, told_alone}
use Rattle.strip_answer.specs.declared.status.Status.{Status}
use Rattle.strip_answer.specs.declared.status.Status.TheVariants.{BadInstance, BadPlan}
use Rattle.strip_answer.specs.Ending.{answer_text}
use Rattle.strip_answer.specs.Rows.{error_row}
use Rattle.strip_answer.specs.declared.input.Input.{Input}
use Rattle.strip_answer.specs.declared.input.Input.TheVariants.{Said, Refused}

abbrev pub too_long_told : ToldData
too_long_told = told_alone (codes "TooLong") None None

abbrev pub too_many_told : ℕ → ToldData
too_many_told count = told_alone (codes "TooManyClasses") (Some count) None

-- an instance, or what is told of a text that says none
abbrev pub film_of_says : Result InstanceData FaultData → Result InstanceData (Option ToldData)
film_of_says (Ok inst) = Ok inst
film_of_says (Err fault) = Err (film_told fault)

-- what the text of a film's file says, which may have so many bytes
abbrev pub film_said : List ℕ → Result InstanceData (Option ToldData)
film_said text = if nat_le (length text) 1_048_576 then film_of_says (film_says text) else Err (Some too_long_told)

abbrev pub plan_of_says : Result PlanData PlanFault → Result PlanData (Option ToldData)
plan_of_says (Ok plan) = Ok plan
plan_of_says (Err fault) = Err (plan_told fault)

-- what the text of a plan's file says of the instance
abbrev pub plan_said : InstanceData → List ℕ → Result PlanData (Option ToldData)
plan_said inst text = if nat_le (length text) 1_073_741_824 then plan_of_says (plan_says inst text) else Err
    (Some too_long_told)

-- this status and text refuse a file of which this is told
abbrev pub IsRefusal : Status → Option ToldData → Status → List ℕ → Type 0
IsRefusal why told status printed = (status ≡ why) × (fault : ToldData) × (told ≡ Some fault)
    × (printed ≡ error_row fault)

-- an instance that a text says: it keeps the limits, and has names by which a film's text can say it and a plan's text an
-- order of it
pub record IsSaidFilm (inst : InstanceData) : Type 0 where
  pub is_instance : IsInstance inst
  pub names : HasReadableNames inst
  pub scenes : HasReadableScenes inst

-- what is given is what the text says, or refuses it
abbrev pub IsFilmGiven : Result InstanceData (Option ToldData) → Input InstanceData → Type 0
IsFilmGiven (Ok inst) (Said given) = (given ≡ inst) × IsSaidFilm inst
IsFilmGiven (Ok inst) (Refused answer) = ⊥
IsFilmGiven (Err told) (Said given) = ⊥
IsFilmGiven (Err told) (Refused answer) = IsRefusal BadInstance told answer.status (answer_text answer)

abbrev pub IsPlanGiven : InstanceData → Result PlanData (Option ToldData) → Input Plan → Type 0
IsPlanGiven inst (Ok plan) (Said given) = (plan_data given ≡ plan) × IsReadablePlan inst plan
IsPlanGiven inst (Ok plan) (Refused answer) = ⊥
IsPlanGiven inst (Err told) (Said given) = ⊥
IsPlanGiven inst (Err told) (Refused answer) = IsRefusal BadPlan told answer.status (answer_text answer)
