use Rattle.std.proofs.Common.{◌+◌, ◌++◌, true, List, [], ◌∷◌, map, sym, ap, ◌∙◌, subst}
use Rattle.strip_text.specs.Rows.{Row}
use Rattle.strip_model.specs.Instance.{scene_data}
use Rattle.strip_instance.specs.Fault.{fault_data}
use Rattle.strip_instance.specs.Parts.{befores_part, scenes_part}
use Rattle.strip_instance.specs.Faults.{row_checks, scenes_checks}
use Rattle.strip_instance.specs.Shown.{rows_from}
use Rattle.strip_instance.proofs.read.Body.{IsRead, at_hand, one_more_read, row-fault}
use Rattle.strip_instance.proofs.read.HandedOn.{handed_on}
use Rattle.strip_instance.proofs.read.SceneRows.{befores_part-next, scenes_of, scenes_of-push, scenes_part-next}
use Rattle.strip_instance.proofs.scenes.read_scenes.Goals as goal

pub returns-in_err-take_row-clause-makes : goal.returns-in_err-take_row-clause-makes
returns-in_err-take_row-clause-makes c =
    let header = c.args.header.now in
    let first = c.args.rows.now.number in
    let part = scenes_part (rows_from c.args.there c.args.row.now c.args.rows.now.left) in
    let l = c.loop-there in
    let scenes = map scene_data l.scenes.items in
    let found = c.in_err-take_row.field-0.0 in
    let here = at_hand (row_checks header) scenes_of first part scenes_part l.row l.rows.number c.number.result l.rows.left l.there scenes
    c.loop-there-test.true c.number.ensures l.invariant.read in
    let is = subst (λ (left : List Row). IsRead (row_checks header) scenes_of first part true c.number.result left scenes)
    (scenes_part-next l.row l.rows.left (sym c.is_before_row.ensures ∙ c.if-not-is_before_row.true)) here in
    handed_on (scenes_checks header first part) _ found c.from_residual.ensures.1
    (row-fault (row_checks header) scenes_of first part l.row c.number.result (scenes_part l.rows.left) scenes (fault_data found) is c.in_err-take_row.ensures.makes)

pub loop-there-preserved : goal.loop-there-preserved
loop-there-preserved c =
    let header = c.args.header.now in
    let first = c.args.rows.now.number in
    let part = scenes_part (rows_from c.args.there c.args.row.now c.args.rows.now.left) in
    let l = c.loop-there in
    let scenes = map scene_data l.scenes.items in
    let other = sym c.is_before_row.ensures ∙ c.if-not-is_before_row.true in
    let here = at_hand (row_checks header) scenes_of first part scenes_part l.row l.rows.number c.number.result l.rows.left l.there scenes
    c.loop-there-test.true c.number.ensures l.invariant.read in
    let is = subst (λ (left : List Row). IsRead (row_checks header) scenes_of first part true c.number.result left scenes) (scenes_part-next l.row l.rows.left other) here in
    record {
      read = one_more_read (row_checks header) scenes_of first part l.row c.number.result (scenes_part l.rows.left) scenes c.in_ok-there.there c.next_row.new.rows.number
          (scenes_part (rows_from c.in_ok-there.there c.next_row.new.row c.next_row.new.rows.left)) (map scene_data c.take_row.new.scenes.items) is
          c.in_ok-take_row.ensures.makes
          (λ earlier made. c.in_ok-take_row.ensures.taken ∙ ap (λ list. list ++ scenes_of (l.row ∷ [])) made ∙ sym (scenes_of-push earlier l.row))
          (ap scenes_part c.in_ok-there.ensures.found)
          (λ there. c.in_ok-there.ensures.counted there ∙ ap (λ n. n + 1) (sym c.number.ensures));
      behind = sym (ap befores_part c.in_ok-there.ensures.found) ∙ sym (befores_part-next l.row l.rows.left other)
          ∙ sym (ap (λ b. befores_part (rows_from b l.row l.rows.left)) c.loop-there-test.true) ∙ l.invariant.behind;
    }
