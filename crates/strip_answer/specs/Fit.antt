-- Files that tell an instance and a plan of it, and files that don't.
use Rattle.std.specs.Prelude.{◌≡◌, ◌⊎◌, ℕ, List, Option, Some, Ok, Err}
use Rattle.strip_model.specs.Data.{InstanceData}
use Rattle.strip_proof.specs.Plan.{PlanData}
use Rattle.strip_text.specs.Told.{ToldData}
use Rattle.strip_answer.specs.declared.status.Status.{Status}
use Rattle.strip_answer.specs.declared.status.Status.TheVariants.{BadInstance, BadPlan}
use Rattle.strip_io.specs.Files.{FilesData}
use Rattle.strip_answer.specs.Said.{film_said, plan_said}

-- the files tell this instance, and this plan of it
pub record AreTold (film plan : List ℕ) (files : FilesData) (inst : InstanceData) (its : PlanData) : Type 0 where
  pub film_text : List ℕ
  pub film_told : files.bytes film ≡ Some film_text
  pub film_says : film_said film_text ≡ Ok inst
  pub plan_text : List ℕ
  pub plan_told : files.bytes plan ≡ Some plan_text
  pub plan_says : plan_said inst plan_text ≡ Ok its

-- the files tell an instance and a plan of which this holds
abbrev pub AreFit : (InstanceData → PlanData → Type 0) → List ℕ → List ℕ → FilesData → Type 0
AreFit Holds film plan files = (inst : InstanceData) × (its : PlanData) × AreTold film plan files inst its
    × Holds inst its

-- the film's file tells a text that says no instance
pub record IsNoFilm (film : List ℕ) (files : FilesData) : Type 0 where
  pub text : List ℕ
  pub told : files.bytes film ≡ Some text
  pub fault : Option ToldData
  pub refused : film_said text ≡ Err fault

-- it tells an instance, and the plan's file a text that says no plan of it
pub record IsNoPlan (film plan : List ℕ) (files : FilesData) : Type 0 where
  pub film_text : List ℕ
  pub film_told : files.bytes film ≡ Some film_text
  pub inst : InstanceData
  pub film_says : film_said film_text ≡ Ok inst
  pub text : List ℕ
  pub told : files.bytes plan ≡ Some text
  pub fault : Option ToldData
  pub refused : plan_said inst text ≡ Err fault

-- the files tell that one of them isn't fit, as this status says
abbrev pub AreUnfit : List ℕ → List ℕ → FilesData → Status → Type 0
AreUnfit film plan files why = (IsNoFilm film files × (why ≡ BadInstance))
    ⊎ (IsNoPlan film plan files × (why ≡ BadPlan))
