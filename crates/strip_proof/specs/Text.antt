-- What a plan text says of an instance: a plan, or its first fault.
use Rattle.std.specs.Prelude.{◌≡◌, ◌≢◌, ℕ, ◌^◌, ◌<◌, ◌≤◌, ◌⊎◌, List, [], length, map, drop, All, Option, None, Some, Result, Ok, Err}
use Rattle.std.specs.List.{AllPairs}
use Rattle.strip_model.specs.declared.kind.Kind.{Kind}
use Rattle.strip_film.specs.declared.shared.Line.{Line}
use Rattle.strip_model.specs.Data.{InstanceData}
use Rattle.strip_text.specs.Field.{trimmed}
use Rattle.strip_text.specs.Number.{number_of}
use Rattle.strip_text.specs.Rows.{Row, field_of, rows_of, row_of}
use Rattle.strip_text.specs.Checks.{first_fault}
use Rattle.strip_proof.specs.declared.plan.Plan.{Plan}
use Rattle.strip_proof.specs.declared.fault.PlanFault.{PlanFault}
use Rattle.strip_proof.specs.declared.fault.PlanFault.TheVariants.{Memory}
use Rattle.strip_proof.specs.Plan.{PlanData, plan_data}
use Rattle.strip_proof.specs.Field.{status_of, set_of, scene_of}
use Rattle.strip_proof.specs.Format.{Format, format_of, plan_checks, value_of}

abbrev pub line_of : Row → Line
line_of row = record { set = set_of (field_of row 1); bound = number_of (field_of row 2) }

-- the plan without lines that the five rows say
abbrev pub head_of : InstanceData → Kind → List Row → PlanData
head_of inst kind five = record {
  status = status_of (value_of five 0);
  kind = kind;
  cost = number_of (value_of five 1);
  bound = number_of (value_of five 2);
  held = number_of (value_of five 3);
  order = map (scene_of inst) (drop 1 (row_of five 4));
  lines = [];
}

-- the plan of rows without a fault
abbrev pub plan_in : InstanceData → List Row → Format → PlanData
plan_in inst rows format =
    record (head_of inst format.kind (drop format.before rows)) { lines = map line_of (drop format.heads rows) }

abbrev pub plan_of : InstanceData → List Row → PlanData
plan_of inst rows = plan_in inst rows (format_of rows)

-- what rows say whose checks have this first fault, or none
abbrev pub reading_of : InstanceData → List Row → Option PlanFault → Result PlanData PlanFault
reading_of inst rows None = Ok (plan_of inst rows)
reading_of inst rows (Some fault) = Err fault

-- what the text says: a plan, or the first fault in the order of the checks
abbrev pub says : InstanceData → List ℕ → Result PlanData PlanFault
says inst text = reading_of inst (rows_of text) (first_fault (plan_checks inst (rows_of text)))

-- what a reader of the text answers: the plan or the fault that the text says, or want of memory
abbrev pub PlanRead : InstanceData → List ℕ → Result Plan PlanFault → Type 0
PlanRead inst text (Ok plan) = says inst text ≡ Ok (plan_data plan)
PlanRead inst text (Err fault) = (fault ≡ Memory) ⊎ (says inst text ≡ Err fault)

-- a line that a text can say
pub record IsReadableLine (line : Line) : Type 0 where
  pub set : line.set < 2 ^ 64
  pub bound : line.bound < 2 ^ 63

-- a plan that a text can say of the instance
pub record IsReadablePlan (inst : InstanceData) (plan : PlanData) : Type 0 where
  pub scenes : All (λ scene. scene < length inst.scenes) plan.order
  pub some : plan.order ≢ []
  pub cost : plan.cost < 2 ^ 63
  pub bound : plan.bound < 2 ^ 63
  pub held : plan.held < 2 ^ 63
  pub few : length plan.lines ≤ 16_777_216
  pub lines : All IsReadableLine plan.lines

-- names of scenes by which a text can say an order: no two scenes share one, and none has a blank at either end
pub record HasReadableScenes (inst : InstanceData) : Type 0 where
  pub apart : AllPairs (λ a b. a.name ≢ b.name) inst.scenes
  pub bare : All (λ scene. trimmed scene.name ≡ scene.name) inst.scenes
