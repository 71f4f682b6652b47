-- When a case is met.
use Rattle.std.specs.Prelude.{◌≡◌, ℕ, List, [], ◌∷◌, Option, None, Some, String, string_bytes}
use Rattle.std.specs.declared.alloc.Global.{Global}
use Rattle.strip_words.specs.Shown.{texts}
use Rattle.strip_answer.specs.Headline.{IsHeadline}
use Rattle.strip_answer.specs.Run.{RunData}
use Rattle.strip_commands.specs.Due.{board_claims}
use Rattle.strip_check_command.specs.Claims.{audit_claims}
use Rattle.stripboard_cases.specs.declared.case.Action.{Action}
use Rattle.stripboard_cases.specs.declared.case.Action.TheVariants.{Give, Run}
use Rattle.stripboard_cases.specs.declared.case.Case.{Case}
use Rattle.stripboard_cases.specs.declared.case.Given.{Given}
use Rattle.stripboard_cases.specs.declared.case.Held.{Held}
use Rattle.stripboard_cases.specs.declared.case.Program.{Program}
use Rattle.stripboard_cases.specs.declared.case.Program.TheVariants.{Stripboard, Stripcheck}
use Rattle.stripboard_cases.specs.declared.case.Step.{Step}
use Rattle.stripboard_cases.specs.Met.{IsMet}
use Rattle.stripboard_cases.specs.AtHand.{IsGiven, IsNowHeld, IsSource}

-- all that the program claims of its runs is claimed of this one
abbrev pub IsClaimedBy : Program → RunData → ℕ → Type 0
IsClaimedBy Stripboard run status = IsHeadline board_claims run status
IsClaimedBy Stripcheck run status = IsHeadline audit_claims run status

-- what was printed is kept under this name, where there is one
abbrev pub IsKept : Option (String Global) → List ℕ → List Held → List Held → Type 0
IsKept None printed before after = after ≡ before
IsKept (Some name) printed before after = IsNowHeld (string_bytes name) printed before after

-- the step's program ran with its words over the files at hand, and did what is wanted of it
pub record IsStepMet (step : Step) (before after : List Held) : Type 0 where
  pub run : RunData
  pub status : ℕ
  pub printed : List ℕ
  pub words : run.words ≡ texts step.words.items
  pub files : IsSource before run.files_before
  pub empty : run.sink_before.taken ≡ Some []
  pub took : run.sink_after.taken ≡ Some printed
  pub ran : IsClaimedBy step.program run status
  pub kept : IsKept step.keep printed before after
  pub met : IsMet step.wanted status printed after

abbrev pub IsDone : Action → List Held → List Held → Type 0
IsDone (Give given) before after = IsGiven given before after
IsDone (Run step) before after = IsStepMet step before after

-- one after the other, each over the files that the one before left
abbrev pub InTurn : {A : Type 0} → (A → List Held → List Held → Type 0) → List A → List Held → List Held → Type 0
InTurn R [] before after = after ≡ before
InTurn R (first ∷ later) before after = (next : List Held) × R first before next × InTurn R later next after

-- from no files on, the files that all cases have are given, and then each action of the case is done
pub record IsCaseMet (shared : List Given) (case : Case) : Type 0 where
  pub given : List Held
  pub left : List Held
  pub front : InTurn IsGiven shared [] given
  pub each : InTurn IsDone case.actions.items given left
