use Rattle.std.proofs.Common.{◌∷◌, [], ◌++◌, map, take, sym, ap, ◌∙◌}
use Rattle.std.specs.String.{string_bytes}
use Rattle.std.proofs.lemmas.List.{map-append}
use Rattle.strip_model.specs.declared.scene.Scene.{Scene}
use Rattle.strip_text.specs.Rows.{field_of}
use Rattle.strip_instance.specs.Shown.{names_of}
use Rattle.strip_instance.proofs.pairs.Fit.{names_more}
use Rattle.strip_instance.proofs.befores.names_along.Goals as goal

pub loop-number-preserved : goal.loop-number-preserved
loop-number-preserved c =
    let scenes = c.args.scenes.now in
    let numbers = c.args.numbers.now in
    let l = c.loop-number in
    let name = c.in_ok-name.name in
    ap (map string_bytes) c.in_ok-push.ensures.items ∙ map-append string_bytes l.names.items (name ∷ [])
    ∙ ap (λ list. list ++ string_bytes name ∷ []) l.invariant
    ∙ ap (λ field. map (field_of (names_of scenes)) (take l.number-index numbers) ++ field ∷ []) (c.in_ok-name.ensures.ok ∙ c.as_str.ensures.value ∙ ap (λ (scene : Scene). string_bytes scene.name) (sym c.index-scenes-number.is))
    ∙ sym (names_more scenes numbers l.number-index c.index-scenes-number.result c.loop-number-test.true
    (c.requires l.number-index 0 c.loop-number-test.true) c.index-scenes-number.is)
