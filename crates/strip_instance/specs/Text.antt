-- What an instance text says: an instance, or its first fault.
use Rattle.std.specs.Prelude.{◌≡◌, ℕ, ◌+◌, ◌*◌, Bool, true, List, [], ◌∷◌, length, map, drop, All, slice_index, Option, None, Some, Result, Ok, Err, if◌then◌else◌}
use Rattle.std.specs.List.{range_with_len}
use Rattle.strip_model.specs.Data.{SceneData, ActorData, InstanceData}
use Rattle.strip_text.specs.Field.{Field, trimmed}
use Rattle.strip_text.specs.Number.{number_of}
use Rattle.strip_text.specs.Rows.{Row, field_of, row_of, rows_of}
use Rattle.strip_text.specs.Checks.{first_fault}
use Rattle.strip_instance.specs.Fault.{FaultData}
use Rattle.strip_instance.specs.Field.{is_name, is_scene_name, is_work_mark}
use Rattle.strip_instance.specs.Parts.{Parts, parts_of, actor_fields, hold_of}
use Rattle.strip_instance.specs.Befores.{pairs_of}
use Rattle.strip_instance.specs.Faults.{scene_rows, scene_names, all_checks}

-- the rates of a row
abbrev pub rates_of : Row → List ℕ
rates_of row = map number_of (actor_fields row)

-- the hold rates: without a row of their own each actor's is his rate
abbrev pub holds_of : List ℕ → Option Row → List ℕ
holds_of rates None = rates
holds_of rates (Some hold) = rates_of hold

-- the actors by their names, rates and hold rates
abbrev pub actor_of : List Field → List ℕ → List ℕ → ℕ → ActorData
actor_of names rates holds actor = record { name = field_of names actor; rate = slice_index rates actor; hold = slice_index holds actor }

abbrev pub actors_of : List Field → List ℕ → List ℕ → List ActorData
actors_of names rates holds = map (actor_of names rates holds) (range_with_len 0 (length names))

-- the actors of a header, by the rows behind it
abbrev pub paid_actors : Row → List Row → List ActorData
paid_actors header rest =
    let rates = rates_of (row_of rest 0) in
    actors_of (actor_fields header) rates (holds_of rates (hold_of (drop 1 rest)))

-- the set of the actors whose marks say that they work: bit 0 stands for the first
abbrev pub cast_of_marks : List Field → ℕ
cast_of_marks [] = 0
cast_of_marks (mark ∷ marks) = (if is_work_mark mark then 1 else 0) + 2 * cast_of_marks marks

abbrev pub scene_of : Row → SceneData
scene_of row = record {
  name = field_of row 0;
  days = number_of (field_of row 1);
  cast = cast_of_marks (actor_fields row);
}

-- the instance of parts without a fault
abbrev pub instance_of : Parts → InstanceData
instance_of parts = record {
  scenes = map scene_of (scene_rows parts.scenes);
  actors = actors_of (actor_fields parts.header) (rates_of parts.rates) (holds_of (rates_of parts.rates) parts.hold);
  pairs = pairs_of (scene_names parts.scenes) parts.befores;
}

-- what rows say whose checks have this first fault, or none
abbrev pub reading_of : List Row → Option FaultData → Result InstanceData FaultData
reading_of rows None = Ok (instance_of (parts_of rows))
reading_of rows (Some fault) = Err fault

-- what the text says: an instance, or the first fault in the order of the checks
abbrev pub says : List ℕ → Result InstanceData FaultData
says text = reading_of (rows_of text) (first_fault (all_checks (rows_of text)))

-- a name that a text can say: it passes the test of names, and has no blank at either end
pub record IsReadableName (test : Field → Bool) (name : Field) : Type 0 where
  pub passes : test name ≡ true
  pub bare : trimmed name ≡ name

-- all names of the instance are such names
pub record HasReadableNames (inst : InstanceData) : Type 0 where
  pub scenes : All (λ scene. IsReadableName is_scene_name scene.name) inst.scenes
  pub actors : All (λ actor. IsReadableName is_name actor.name) inst.actors
