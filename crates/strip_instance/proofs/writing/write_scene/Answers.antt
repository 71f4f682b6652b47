use Rattle.std.proofs.Common.{◌≡◌, ◌∷◌, ◌++◌, [], map, arith, sym, ap, ◌∙◌}
use Rattle.std.specs.Fmt.{decimal}
use Rattle.std.specs.List.{range_with_len}
use Rattle.std.specs.String.{string_bytes}
use Rattle.std.proofs.lemmas.List.{map-append}
use Rattle.std.proofs.lemmas.List.FromFn.{map-range_with_len_more}
use Rattle.std.proofs.lemmas.Result.{on_ok_weaker}
use Rattle.strip_text.specs.Rows.{csv_row}
use Rattle.strip_model.specs.Instance.{scene_data}
use Rattle.strip_instance.specs.Canonical.{mark_of, scene_fields}
use Rattle.strip_instance.proofs.writing.write_scene.Goals as goal

pub loop-actor-preserved : goal.loop-actor-preserved
loop-actor-preserved c =
    let scene = c.args.scene.now in
    let k = c.loop-actor.actor in
    let field = c.as_bytes-in-loop-actor.result in
    let marks = map (mark_of scene.cast) (range_with_len 0 k) in
    ap (map (λ field. field.now)) c.in_ok-push-3.ensures.items ∙ map-append (λ field. field.now) c.loop-actor.fields.items (field ∷ [])
    ∙ ap (λ list. list ++ field.now ∷ []) c.loop-actor.invariant
    ∙ ap (λ mark. string_bytes scene.name ∷ decimal scene.days ∷ (marks ++ mark ∷ [])) (c.as_bytes-in-loop-actor.ensures.value ∙ c.mark.ensures)
    ∙ ap (λ list. string_bytes scene.name ∷ decimal scene.days ∷ list) (sym (map-range_with_len_more (mark_of scene.cast) 0 k k (omega arith)))

pub returns : goal.returns
returns c =
    let fields : map (λ field. field.now) c.deref.result.now ≡ scene_fields c.args.actors (scene_data c.args.scene.now)
    = ap (map (λ field. field.now)) c.deref.ensures.value ∙ c.loop-actor.invariant
    ∙ ap (λ n. string_bytes c.args.scene.now.name ∷ decimal c.args.scene.now.days ∷ map (mark_of c.args.scene.now.cast) (range_with_len 0 n)) (omega (arith, c.loop-actor-test.false, c.loop-actor.auto.actor-end)) in
    on_ok_weaker c.push-3.result (λ is. is ∙ ap (λ row. c.args.text.now ++ csv_row row) fields) c.push-3.ensures
