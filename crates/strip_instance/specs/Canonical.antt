-- The canonical text of an instance.
use Rattle.std.specs.Prelude.{ℕ, Bool, not, ◌==◌, List, [], ◌∷◌, ◌++◌, length, map, codes, if◌then◌else◌}
use Rattle.std.specs.List.{list_any, range_with_len}
use Rattle.std.specs.Fmt.{decimal}
use Rattle.strip_mask.specs.Set.{has}
use Rattle.strip_model.specs.declared.pair.Pair.{Pair}
use Rattle.strip_model.specs.Data.{SceneData, ActorData, InstanceData}
use Rattle.strip_text.specs.Field.{Field}
use Rattle.strip_text.specs.Rows.{Row, csv_text, field_of}

-- the mark of an actor in a cast
abbrev pub mark_of : ℕ → ℕ → Field
mark_of cast actor = if has cast actor then codes "x" else codes "."

-- the fields of the kinds of rows
abbrev pub header_fields : List ActorData → Row
header_fields actors = codes "scene" ∷ codes "days" ∷ map (λ actor. actor.name) actors

abbrev pub pay_fields : Field → (ActorData → ℕ) → List ActorData → Row
pay_fields word rate actors = word ∷ [] ∷ map (λ actor. decimal (rate actor)) actors

abbrev pub rate_fields : List ActorData → Row
rate_fields actors = pay_fields (codes "rate") (λ actor. actor.rate) actors

abbrev pub hold_fields : List ActorData → Row
hold_fields actors = pay_fields (codes "hold") (λ actor. actor.hold) actors

abbrev pub scene_fields : ℕ → SceneData → Row
scene_fields actors scene = scene.name ∷ decimal scene.days ∷ map (mark_of scene.cast) (range_with_len 0 actors)

-- some actor's hold rate isn't his rate
abbrev pub has_own_holds : List ActorData → Bool
has_own_holds actors = list_any (λ actor. not (actor.hold == actor.rate)) actors

-- the rows before those of the scenes; the hold row is among them only where it tells something
abbrev pub head_rows : List ActorData → List Row
head_rows actors = header_fields actors ∷ rate_fields actors ∷ (if has_own_holds actors then hold_fields actors ∷ [] else [])

-- the row of a pair, where these are the scenes' names
abbrev pub pair_fields : List Field → Pair → Row
pair_fields names pair = codes "before" ∷ field_of names pair.first ∷ field_of names pair.then ∷ []

abbrev pub names_of : InstanceData → List Field
names_of inst = map (λ scene. scene.name) inst.scenes

-- the rows of the scenes, and then those of the pairs
abbrev pub body_rows : InstanceData → List Row
body_rows inst = map (scene_fields (length inst.actors)) inst.scenes ++ map (pair_fields (names_of inst)) inst.pairs

abbrev pub canonical_rows : InstanceData → List Row
canonical_rows inst = head_rows inst.actors ++ body_rows inst

-- the canonical text: each row as CSV writes it, quoted where it has to be
abbrev pub canonical_text : InstanceData → List ℕ
canonical_text inst = csv_text (canonical_rows inst)
