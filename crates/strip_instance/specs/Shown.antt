-- What contracts see of the rows that are left, of borrowed texts, and of the two kinds of rates.
use Rattle.std.specs.Prelude.{ℕ, Bool, List, [], ◌∷◌, map, codes, if◌then◌else◌}
use Rattle.std.specs.Borrow.{Bor}
use Rattle.strip_text.specs.Field.{Field}
use Rattle.strip_text.specs.Rows.{Row}
use Rattle.strip_model.specs.Data.{ActorData}
use Rattle.strip_model.specs.Instance.{scene_data}
use Rattle.strip_model.specs.declared.scene.Scene.{Scene}
use Rattle.strip_instance.specs.Fault.{FaultData, BadRate, BadHold}
use Rattle.strip_instance.specs.declared.kind.RateKind.{RateKind}
use Rattle.strip_instance.specs.declared.kind.RateKind.TheVariants.{Work, Wait}

-- the rows from this one on, where there was one to read; else there are none
abbrev pub rows_from : Bool → Row → List Row → List Row
rows_from there row left = if there then row ∷ left else []

-- the scenes' names
abbrev pub names_of : List Scene → List Field
names_of scenes = map (λ scene. scene.name) (map scene_data scenes)

-- the bytes of borrowed texts
abbrev pub strs : List (Bor (List ℕ)) → List (List ℕ)
strs list = map (λ text. text.now) list

-- the word that a row of such rates begins with
abbrev pub rate_word : RateKind → Field
rate_word Work = codes "rate"
rate_word Wait = codes "hold"

-- the fault of a field in it that is no rate, by its column
abbrev pub rate_fault : RateKind → ℕ → FaultData
rate_fault Work = BadRate
rate_fault Wait = BadHold

-- an actor's rate of this kind
abbrev pub rate_of : RateKind → ActorData → ℕ
rate_of Work actor = actor.rate
rate_of Wait actor = actor.hold
