use Rattle.std.proofs.Common.{◌≡◌, ◌<◌, ◌∙◌, true, length, map, sym, ap, arith}
use Rattle.std.proofs.lemmas.List.{length-map}
use Rattle.strip_text.specs.Number.{is_number}
use Rattle.strip_text.specs.Rows.{field_of}
use Rattle.strip_model.specs.Data.{SceneData}
use Rattle.strip_model.specs.Instance.{scene_data}
use Rattle.strip_instance.specs.Field.{is_scene_name}
use Rattle.strip_instance.specs.Faults.{contains, scene_checks}
use Rattle.strip_instance.specs.Fault.{fault_data}
use Rattle.strip_instance.proofs.read.HandedOn.{handed_on}
use Rattle.strip_instance.proofs.read.SceneChecks.{is_text, name-fault, days-fault, marks-fault, no-fault}
use Rattle.strip_instance.proofs.scenes.read_scene.Goals as goal

pub returns-then-has_scene-clause-makes : goal.returns-then-has_scene-clause-makes
returns-then-has_scene-clause-makes c = λ earlier same.
    let header = c.args.header.now in
    let row = c.args.row.now in
    let scenes = map scene_data c.args.scenes.now in
    let name = c.in_ok-name.ensures.same ∙ c.field.ensures in
    let few : length scenes < 200 = omega (arith, c.if-scenes-ge-MAX_SCENES.false, length-map c.args.scenes.now scene_data) in
    let text = is_text c.field.result.now row c.args.number c.field.ensures c.in_ok-name.ensures.makes in
    let named : is_scene_name (field_of row 0) ≡ true
    = ap is_scene_name (sym (c.as_bytes.ensures.value ∙ name)) ∙ sym c.is_scene_name.ensures ∙ c.if-not-is_scene_name.false in
    let known : c.has_scene.result ≡ contains (map (λ (scene : SceneData). scene.name) scenes) (field_of row 0)
    = c.has_scene.ensures ∙ ap (contains (map (λ (scene : SceneData). scene.name) scenes)) (c.as_bytes-2.ensures.value ∙ name) in
    name-fault header row c.args.number scenes c.has_scene.result few (sym c.len.ensures ∙ c.if-len.false ∙ c.len-2.ensures) text named known earlier same c.if-has_scene.true

pub returns-in_default-clause-makes : goal.returns-in_default-clause-makes
returns-in_default-clause-makes c = λ earlier same.
    let header = c.args.header.now in
    let row = c.args.row.now in
    let scenes = map scene_data c.args.scenes.now in
    let name = c.in_ok-name.ensures.same ∙ c.field.ensures in
    let few : length scenes < 200 = omega (arith, c.if-scenes-ge-MAX_SCENES.false, length-map c.args.scenes.now scene_data) in
    let text = is_text c.field.result.now row c.args.number c.field.ensures c.in_ok-name.ensures.makes in
    let named : is_scene_name (field_of row 0) ≡ true
    = ap is_scene_name (sym (c.as_bytes.ensures.value ∙ name)) ∙ sym c.is_scene_name.ensures ∙ c.if-not-is_scene_name.false in
    let known : c.has_scene.result ≡ contains (map (λ (scene : SceneData). scene.name) scenes) (field_of row 0)
    = c.has_scene.ensures ∙ ap (contains (map (λ (scene : SceneData). scene.name) scenes)) (c.as_bytes-2.ensures.value ∙ name) in
    days-fault header row c.args.number scenes c.has_scene.result few (sym c.len.ensures ∙ c.if-len.false ∙ c.len-2.ensures) text named known earlier same c.if-has_scene.false
    (ap (is_number 1 99) (sym c.field-2.ensures) ∙ c.in_default.ensures)

pub returns-in_err-cast-clause-makes : goal.returns-in_err-cast-clause-makes
returns-in_err-cast-clause-makes c = λ earlier same.
    let header = c.args.header.now in
    let row = c.args.row.now in
    let scenes = map scene_data c.args.scenes.now in
    let name = c.in_ok-name.ensures.same ∙ c.field.ensures in
    let few : length scenes < 200 = omega (arith, c.if-scenes-ge-MAX_SCENES.false, length-map c.args.scenes.now scene_data) in
    let text = is_text c.field.result.now row c.args.number c.field.ensures c.in_ok-name.ensures.makes in
    let named : is_scene_name (field_of row 0) ≡ true
    = ap is_scene_name (sym (c.as_bytes.ensures.value ∙ name)) ∙ sym c.is_scene_name.ensures ∙ c.if-not-is_scene_name.false in
    let known : c.has_scene.result ≡ contains (map (λ (scene : SceneData). scene.name) scenes) (field_of row 0)
    = c.has_scene.ensures ∙ ap (contains (map (λ (scene : SceneData). scene.name) scenes)) (c.as_bytes-2.ensures.value ∙ name) in
    let dated : is_number 1 99 (field_of row 1) ≡ true = ap (is_number 1 99) (sym c.field-2.ensures) ∙ c.in-Some.ensures.0 in
    let found = c.in_err-cast.field-0.0 in
    let fault = fault_data found in
    handed_on (scene_checks header earlier c.args.number row) _ found c.from_residual-in_err-cast.ensures.1
    (marks-fault header row c.args.number scenes c.has_scene.result few (sym c.len.ensures ∙ c.if-len.false ∙ c.len-2.ensures) text named known earlier same fault c.if-has_scene.false dated c.in_err-cast.ensures.makes)

pub returns-clause-makes : goal.returns-clause-makes
returns-clause-makes c = λ earlier same.
    let header = c.args.header.now in
    let row = c.args.row.now in
    let scenes = map scene_data c.args.scenes.now in
    let name = c.in_ok-name.ensures.same ∙ c.field.ensures in
    let few : length scenes < 200 = omega (arith, c.if-scenes-ge-MAX_SCENES.false, length-map c.args.scenes.now scene_data) in
    let text = is_text c.field.result.now row c.args.number c.field.ensures c.in_ok-name.ensures.makes in
    let named : is_scene_name (field_of row 0) ≡ true
    = ap is_scene_name (sym (c.as_bytes.ensures.value ∙ name)) ∙ sym c.is_scene_name.ensures ∙ c.if-not-is_scene_name.false in
    let known : c.has_scene.result ≡ contains (map (λ (scene : SceneData). scene.name) scenes) (field_of row 0)
    = c.has_scene.ensures ∙ ap (contains (map (λ (scene : SceneData). scene.name) scenes)) (c.as_bytes-2.ensures.value ∙ name) in
    let dated : is_number 1 99 (field_of row 1) ≡ true = ap (is_number 1 99) (sym c.field-2.ensures) ∙ c.in-Some.ensures.0 in
    no-fault header row c.args.number scenes c.has_scene.result few (sym c.len.ensures ∙ c.if-len.false ∙ c.len-2.ensures) text named known earlier same c.if-has_scene.false dated c.in_ok-cast.ensures.makes
