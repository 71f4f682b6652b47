use Rattle.std.proofs.Common.{◌∷◌, map, drop, refl, sym, ap, ◌∙◌, subst}
use Rattle.strip_text.specs.Checks.{first_fault}
use Rattle.strip_model.specs.Data.{IsInstance}
use Rattle.strip_model.specs.Instance.{actor_data, scene_data}
use Rattle.strip_instance.specs.Parts.{body_of, first_of, scenes_part, befores_part}
use Rattle.strip_instance.specs.Befores.{pairs_of}
use Rattle.strip_instance.specs.Faults.{all_checks, scene_names}
use Rattle.strip_instance.specs.Shown.{strs}
use Rattle.strip_instance.specs.Fault.{fault_data}
use Rattle.strip_instance.proofs.read.HandedOn.{handed_on}
use Rattle.strip_instance.proofs.read.SceneRows.{scenes_of}
use Rattle.strip_instance.proofs.read.Whole.{body-same, filmed-fault, header-fault, instance-is, no-fault, paid-fault, tells-same}
use Rattle.strip_instance.proofs.said.Within.{instance-limits}
use Rattle.strip_instance.proofs.reading.read_behind.Goals as goal

pub returns-in_err-names-clause-makes : goal.returns-in_err-names-clause-makes
returns-in_err-names-clause-makes c =
    let header = c.args.header.now in
    let rest = c.args.rows.now.left in
    let rows = header ∷ rest in
    let found = c.in_err-names.field-0.0 in
    let fault = fault_data found in
    handed_on (all_checks rows) _ found c.from_residual.ensures.1
    (header-fault rows rest (drop 1 rest) header refl refl fault c.in_err-names.ensures.makes)

pub returns-in_err-actors-clause-makes : goal.returns-in_err-actors-clause-makes
returns-in_err-actors-clause-makes c =
    let header = c.args.header.now in
    let rest = c.args.rows.now.left in
    let rows = header ∷ rest in
    let found = c.in_err-actors.field-0.0 in
    let fault = fault_data found in
    handed_on (all_checks rows) _ found c.from_residual-in_err-actors.ensures.1
    (paid-fault rows rest (drop 1 rest) header refl refl fault c.in_ok-names.ensures.makes c.in_err-actors.ensures.makes)

pub returns-in_err-scenes-clause-makes : goal.returns-in_err-scenes-clause-makes
returns-in_err-scenes-clause-makes c =
    let header = c.args.header.now in
    let rest = c.args.rows.now.left in
    let rows = header ∷ rest in
    let paid = c.read_actors.new in
    let body = body-same c.in_ok-actors.field-0.there header paid.row paid.rows.number (first_of (drop 1 rest)) paid.rows.left (body_of (drop 1 rest))
    c.in_ok-actors.ensures.body c.in_ok-actors.ensures.counted in
    let found = c.in_err-scenes.field-0.0 in
    let fault = fault_data found in
    handed_on (all_checks rows) _ found c.from_residual-in_err-scenes.ensures.1
    (filmed-fault rows rest (drop 1 rest) header refl refl fault c.in_ok-names.ensures.makes c.in_ok-actors.ensures.makes
    (tells-same fault _ _ (sym body) c.in_err-scenes.ensures.makes))

pub returns-clause-makes : goal.returns-clause-makes
returns-clause-makes c =
    let header = c.args.header.now in
    let rest = c.args.rows.now.left in
    let rows = header ∷ rest in
    let paid = c.read_actors.new in
    let body = body-same c.in_ok-actors.field-0.there header paid.row paid.rows.number (first_of (drop 1 rest)) paid.rows.left (body_of (drop 1 rest))
    c.in_ok-actors.ensures.body c.in_ok-actors.ensures.counted in
    no-fault rows rest (drop 1 rest) header refl refl c.in_ok-names.ensures.makes c.in_ok-actors.ensures.makes (ap first_fault (sym body) ∙ c.in_ok-scenes.ensures.makes)

pub returns-clause-instance : goal.returns-clause-instance
returns-clause-instance c =
    let header = c.args.header.now in
    let rest = c.args.rows.now.left in
    let rows = header ∷ rest in
    let actors = c.in_ok-actors.field-0.actors.items in
    let made = c.in_ok-scenes.field-0 in
    let same = instance-is rows rest (drop 1 rest) header refl refl (map scene_data made.scenes.items) (map actor_data actors) made.pairs.items
    (c.in_ok-scenes.ensures.scenes ∙ ap (λ list. scenes_of (scenes_part list)) c.in_ok-actors.ensures.body) c.in_ok-actors.ensures.actors
    (c.in_ok-scenes.ensures.pairs ∙ ap (λ list. pairs_of (scene_names (scenes_part list)) (befores_part list)) c.in_ok-actors.ensures.body) in
    c.made.ensures ∙ same

pub made-requires : goal.made-requires
made-requires c =
    let header = c.args.header.now in
    let rest = c.args.rows.now.left in
    let rows = header ∷ rest in
    let actors = c.in_ok-actors.field-0.actors.items in
    let made = c.in_ok-scenes.field-0 in
    let same = instance-is rows rest (drop 1 rest) header refl refl (map scene_data made.scenes.items) (map actor_data actors) made.pairs.items
    (c.in_ok-scenes.ensures.scenes ∙ ap (λ list. scenes_of (scenes_part list)) c.in_ok-actors.ensures.body) c.in_ok-actors.ensures.actors
    (c.in_ok-scenes.ensures.pairs ∙ ap (λ list. pairs_of (scene_names (scenes_part list)) (befores_part list)) c.in_ok-actors.ensures.body) in
    let paid = c.read_actors.new in
    let body = body-same c.in_ok-actors.field-0.there header paid.row paid.rows.number (first_of (drop 1 rest)) paid.rows.left (body_of (drop 1 rest))
    c.in_ok-actors.ensures.body c.in_ok-actors.ensures.counted in
    let none = no-fault rows rest (drop 1 rest) header refl refl c.in_ok-names.ensures.makes c.in_ok-actors.ensures.makes (ap first_fault (sym body) ∙ c.in_ok-scenes.ensures.makes) in
    subst IsInstance (sym same) (instance-limits rows (record { none = none }))

pub read_actors-requires-clause-names : goal.read_actors-requires-clause-names
read_actors-requires-clause-names c = ap strs c.deref.ensures.value ∙ c.in_ok-names.ensures.names
