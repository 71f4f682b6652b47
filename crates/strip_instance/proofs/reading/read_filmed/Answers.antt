use Rattle.std.proofs.Common.{◌≡◌, ◌<◌, ◌+◌, ℕ, false, eqb, List, length, map, inr, sym, ap, ◌∙◌, arith, vec_len}
use Rattle.std.proofs.lemmas.Bool.{eqb-true}
use Rattle.std.proofs.lemmas.Bool.Decides.{nat_tests}
use Rattle.std.proofs.lemmas.List.{length-map}
use Rattle.strip_text.specs.Field.{Field}
use Rattle.strip_text.specs.Checks.{first_fault}
use Rattle.strip_model.specs.Instance.{scene_data}
use Rattle.strip_instance.specs.Fault.{fault_data}
use Rattle.strip_instance.specs.Befores.{pairs_of}
use Rattle.strip_instance.specs.Parts.{befores_part, scenes_part}
use Rattle.strip_instance.specs.Faults.{befores_checks, body_parts_checks, scene_names, scene_rows}
use Rattle.strip_instance.specs.Text.{scene_of}
use Rattle.strip_instance.specs.Shown.{names_of, rows_from}
use Rattle.strip_instance.proofs.read.Filmed.{befores-fault, end-fault, later-same, no-fault, scene_names-made, scenes-fault}
use Rattle.strip_instance.proofs.read.HandedOn.{handed_on}
use Rattle.strip_instance.proofs.read.Whole.{tells-same}
use Rattle.strip_instance.proofs.said.Within.{scenes_few}
use Rattle.strip_instance.proofs.reading.read_filmed.Goals as goal

pub returns-in_err-scenes-clause-makes : goal.returns-in_err-scenes-clause-makes
returns-in_err-scenes-clause-makes c =
    let header = c.args.header.now in
    let first = c.args.rows.now.number in
    let body = rows_from c.args.there c.args.row.now c.args.rows.now.left in
    let part = scenes_part body in
    let later = befores_part body in
    let found = c.in_err-scenes.field-0.0 in
    handed_on (body_parts_checks header first part later) _ found c.from_residual.ensures.1
    (scenes-fault header first part later (fault_data found) c.in_err-scenes.ensures.makes)

pub read_befores-requires : goal.read_befores-requires
read_befores-requires c =
    let header = c.args.header.now in
    let first = c.args.rows.now.number in
    let part = scenes_part (rows_from c.args.there c.args.row.now c.args.rows.now.left) in
    let scenes = c.in_ok-scenes.field-0.scenes.items in
    omega (
      arith,
      ap length c.deref.ensures.value,
      length-map scenes scene_data,
      ap length c.in_ok-scenes.ensures.scenes,
      length-map (scene_rows part) scene_of,
      scenes_few header first part (record { none = c.in_ok-scenes.ensures.makes }),
    )

pub returns-in_err-pairs-clause-makes : goal.returns-in_err-pairs-clause-makes
returns-in_err-pairs-clause-makes c =
    let header = c.args.header.now in
    let first = c.args.rows.now.number in
    let body = rows_from c.args.there c.args.row.now c.args.rows.now.left in
    let part = scenes_part body in
    let later = befores_part body in
    let made = c.in_ok-scenes.field-0 in
    let seen = map scene_data made.scenes.items in
    let names : names_of c.deref.result.now ≡ scene_names part
    = ap names_of c.deref.ensures.value ∙ scene_names-made part seen c.in_ok-scenes.ensures.scenes in
    let read = c.read_scenes.new in
    let same : befores_checks (names_of c.deref.result.now) read.rows.number (rows_from made.there read.row read.rows.left)
    ≡ befores_checks (scene_names part) (first + length part) later
    = ap (λ (list : List Field). befores_checks list read.rows.number (rows_from made.there read.row read.rows.left)) names
    ∙ later-same made.there (scene_names part) read.row read.rows.number (first + length part) read.rows.left later c.in_ok-scenes.ensures.left c.in_ok-scenes.ensures.counted in
    let found = c.in_err-pairs.field-0.0 in
    handed_on (body_parts_checks header first part later) _ found c.from_residual-in_err-pairs.ensures.1
    (befores-fault header first part later (fault_data found) c.in_ok-scenes.ensures.makes
    (tells-same (fault_data found) _ _ (sym same) c.in_err-pairs.ensures.makes))

pub returns-then-is_empty-clause-makes : goal.returns-then-is_empty-clause-makes
returns-then-is_empty-clause-makes c =
    let header = c.args.header.now in
    let first = c.args.rows.now.number in
    let body = rows_from c.args.there c.args.row.now c.args.rows.now.left in
    let part = scenes_part body in
    let later = befores_part body in
    let made = c.in_ok-scenes.field-0 in
    let seen = map scene_data made.scenes.items in
    let names : names_of c.deref.result.now ≡ scene_names part
    = ap names_of c.deref.ensures.value ∙ scene_names-made part seen c.in_ok-scenes.ensures.scenes in
    let read = c.read_scenes.new in
    let same : befores_checks (names_of c.deref.result.now) read.rows.number (rows_from made.there read.row read.rows.left)
    ≡ befores_checks (scene_names part) (first + length part) later
    = ap (λ (list : List Field). befores_checks list read.rows.number (rows_from made.there read.row read.rows.left)) names
    ∙ later-same made.there (scene_names part) read.row read.rows.number (first + length part) read.rows.left later c.in_ok-scenes.ensures.left c.in_ok-scenes.ensures.counted in
    let none : length seen ≡ 0
    = omega (arith, length-map made.scenes.items scene_data, made.scenes.ok.0, eqb-true (vec_len made.scenes) 0 (sym c.if-is_empty.ensures)) in
    inr (end-fault header first part later seen c.in_ok-scenes.ensures.scenes none c.in_ok-scenes.ensures.makes (ap first_fault (sym same) ∙ c.in_ok-pairs.ensures.makes))

-- a length that is not 0
some_items : (len n : ℕ) → eqb len 0 ≡ false → n ≡ len → 0 < n
some_items len n test same = grind (arith, nat_tests)

pub returns-clause-makes : goal.returns-clause-makes
returns-clause-makes c =
    let header = c.args.header.now in
    let first = c.args.rows.now.number in
    let body = rows_from c.args.there c.args.row.now c.args.rows.now.left in
    let part = scenes_part body in
    let later = befores_part body in
    let made = c.in_ok-scenes.field-0 in
    let seen = map scene_data made.scenes.items in
    let names : names_of c.deref.result.now ≡ scene_names part
    = ap names_of c.deref.ensures.value ∙ scene_names-made part seen c.in_ok-scenes.ensures.scenes in
    let read = c.read_scenes.new in
    let same : befores_checks (names_of c.deref.result.now) read.rows.number (rows_from made.there read.row read.rows.left)
    ≡ befores_checks (scene_names part) (first + length part) later
    = ap (λ (list : List Field). befores_checks list read.rows.number (rows_from made.there read.row read.rows.left)) names
    ∙ later-same made.there (scene_names part) read.row read.rows.number (first + length part) read.rows.left later c.in_ok-scenes.ensures.left c.in_ok-scenes.ensures.counted in
    let some : 0 < length seen
    = some_items (vec_len made.scenes) _ (sym c.if-is_empty.ensures) (omega (arith, length-map made.scenes.items scene_data, made.scenes.ok.0)) in
    no-fault header first part later seen c.in_ok-scenes.ensures.scenes some c.in_ok-scenes.ensures.makes (ap first_fault (sym same) ∙ c.in_ok-pairs.ensures.makes)

pub returns-clause-pairs : goal.returns-clause-pairs
returns-clause-pairs c =
    let part = scenes_part (rows_from c.args.there c.args.row.now c.args.rows.now.left) in
    let seen = map scene_data c.in_ok-scenes.field-0.scenes.items in
    let read = c.read_scenes.new in
    let names : names_of c.deref.result.now ≡ scene_names part
    = ap names_of c.deref.ensures.value ∙ scene_names-made part seen c.in_ok-scenes.ensures.scenes in
    c.in_ok-pairs.ensures.pairs ∙ ap (λ (list : List Field). pairs_of list (rows_from c.in_ok-scenes.field-0.there read.row read.rows.left)) names
    ∙ ap (pairs_of (scene_names part)) c.in_ok-scenes.ensures.left

pub returns-clause-scenes : goal.returns-clause-scenes
returns-clause-scenes c = c.in_ok-scenes.ensures.scenes
