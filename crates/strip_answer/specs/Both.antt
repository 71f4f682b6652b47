-- A film's file that was read, and then a plan's.
use Rattle.std.specs.Prelude.{◌≡◌, ◌⊎◌, ℕ, List, Option, Some, Result, Ok, Err}
use Rattle.strip_model.specs.Data.{InstanceData}
use Rattle.strip_proof.specs.declared.plan.Plan.{Plan}
use Rattle.strip_proof.specs.Plan.{PlanData, plan_data}
use Rattle.strip_proof.specs.Text.{IsReadablePlan}
use Rattle.strip_text.specs.Told.{ToldData}
use Rattle.strip_answer.specs.declared.status.Status.{Status}
use Rattle.strip_answer.specs.declared.status.Status.TheVariants.{BadInstance, BadPlan}
use Rattle.strip_answer.specs.Ending.{answer_text}
use Rattle.strip_io.specs.Files.{FilesData}
use Rattle.strip_answer.specs.declared.input.Input.{Input}
use Rattle.strip_answer.specs.declared.input.Input.TheVariants.{Said, Refused}
use Rattle.strip_answer.specs.Input.{HasInput}
use Rattle.strip_answer.specs.Said.{IsRefusal, IsSaidFilm, film_said, plan_said}

-- what holds where the film's file is refused and this is told of it, where the plan's is, and where they say an
-- instance and a plan
pub record Ways : Type 1 where
  pub Film : Option ToldData → Type 0
  pub Plan : Option ToldData → Type 0
  pub Both : InstanceData → PlanData → Type 0

abbrev pub PlanSays : Ways → InstanceData → Result PlanData (Option ToldData) → Type 0
PlanSays ways inst (Ok plan) = IsReadablePlan inst plan × ways.Both inst plan
PlanSays ways inst (Err told) = ways.Plan told

-- the plan's file is read only where the film's says an instance
abbrev pub FilmSays : Ways → List ℕ → FilesData → FilesData → Result InstanceData (Option ToldData) → Type 0
FilmSays ways plan middle after (Ok inst) =
    IsSaidFilm inst × HasInput plan 1_073_741_824 middle after (λ text. PlanSays ways inst (plan_said inst text))
FilmSays ways plan middle after (Err told) = (after ≡ middle) × ways.Film told

-- the film's file was read, and then the plan's, and what they say is one of these ways
abbrev pub BothSay : Ways → List ℕ → List ℕ → FilesData → FilesData → Type 0
BothSay ways film plan before after =
    (middle : FilesData) × (middle.bytes ≡ before.bytes)
    × HasInput film 1_048_576 before middle (λ text. FilmSays ways plan middle after (film_said text))

-- the film's file says an instance, if it is told
abbrev pub MaySayFilm : List ℕ → FilesData → Type 0
MaySayFilm film files = (text : List ℕ) → files.bytes film ≡ Some text → (inst : InstanceData) × (film_said text ≡ Ok inst)

-- a file is one of the two: the film's, or the plan's, which is asked for only where the film's may say an instance
abbrev pub IsEither : List ℕ → List ℕ → FilesData → List ℕ → Type 0
IsEither film plan files file = (film ≡ file) ⊎ ((plan ≡ file) × MaySayFilm film files)

-- the answer is given that refuses a file, with this status and of which this is told
abbrev pub IsRefused : Status → Option ToldData → Input (InstanceData × Plan) → Type 0
IsRefused why told (Said given) = ⊥
IsRefused why told (Refused answer) = IsRefusal why told answer.status (answer_text answer)

-- the instance and the plan are given
abbrev pub AreGiven : InstanceData → PlanData → Input (InstanceData × Plan) → Type 0
AreGiven inst plan (Said given) = (given.0 ≡ inst) × (plan_data given.1 ≡ plan)
AreGiven inst plan (Refused answer) = ⊥

abbrev pub ways_of_input : Input (InstanceData × Plan) → Ways
ways_of_input input = record {
  Film = λ told. IsRefused BadInstance told input;
  Plan = λ told. IsRefused BadPlan told input;
  Both = λ inst plan. AreGiven inst plan input;
}

-- a status and a text are due: the refusal of a file, or what is due for an instance and a plan
abbrev pub ways_due : (InstanceData → PlanData → Status → List ℕ → Type 0) → Status → List ℕ → Ways
ways_due Due status printed = record {
  Film = λ told. IsRefusal BadInstance told status printed;
  Plan = λ told. IsRefusal BadPlan told status printed;
  Both = λ inst plan. Due inst plan status printed;
}

-- what is due for the two files, where this is due for an instance and a plan
abbrev pub IsBothDue : (InstanceData → PlanData → Status → List ℕ → Type 0) → List ℕ → List ℕ → FilesData → FilesData
    → Status → List ℕ → Type 0
IsBothDue Due film plan before after status printed = BothSay (ways_due Due status printed) film plan before after

-- an instance and a plan that are given are such as texts say
abbrev pub AreSaid : Input (InstanceData × Plan) → Type 0
AreSaid (Said given) = IsSaidFilm given.0 × IsReadablePlan given.0 (plan_data given.1)
AreSaid (Refused answer) = Unit {0}
