use Rattle.std.proofs.Common.{◌≡◌, ◌++◌, length, map, ap, ◌∙◌, Ok, arith}
use Rattle.std.proofs.lemmas.Result.{IfOk-weaker}
use Rattle.strip_text.specs.Rows.{csv_text}
use Rattle.strip_model.specs.Data.{SceneData}
use Rattle.strip_model.specs.Instance.{actor_data, scene_data}
use Rattle.strip_instance.specs.Text.{HasReadableNames, says}
use Rattle.strip_instance.specs.Arranged.{arranged, scene_in}
use Rattle.strip_instance.specs.Canonical.{canonical_text, head_rows, pair_fields, scene_fields}
use Rattle.strip_instance.proofs.Arranged.{arranged_is, arranged_names, rows_of_pairs}
use Rattle.strip_instance.proofs.back.Back.{says_it}
use Rattle.strip_instance.proofs.back.TextNames.{text_names}
use Rattle.strip_instance.proofs.back.Written.{whole}
use Rattle.strip_instance.proofs.arranging.write_arranged.Goals as goal

pub write_in_order-requires-clause-known : goal.write_in_order-requires-clause-known
write_in_order-requires-clause-known c = λ k d within. omega (arith, c.requires.known k d within, c.scenes-scenes.ensures.count)

pub returns-clause-canonical : goal.returns-clause-canonical
returns-clause-canonical c =
    let inst = c.args.inst.now in
    let order = c.args.order.now in
    let moved = arranged inst order in
    let n = length inst.actors in
    let heads = csv_text (head_rows inst.actors) in
    let scenes : map scene_data c.scenes-scenes.result.now ≡ inst.scenes = c.scenes-scenes.ensures.scenes in
    let count : length c.actors-actors.result.now ≡ n = c.actors-actors.ensures.count in
    let pairs : c.pairs.result.now ≡ inst.pairs = c.pairs.ensures.pairs in
    let one : c.write_heads.new.text ≡ heads
    = c.in_ok-write_heads.ensures ∙ ap (λ text. text ++ csv_text (head_rows (map actor_data c.actors-actors.result.now))) c.new-text.ensures
    ∙ ap (λ actors. csv_text (head_rows actors)) c.actors-actors.ensures.actors in
    let two : c.write_in_order.new.text ≡ heads ++ csv_text (map (scene_fields n) moved.scenes)
    = c.in_ok-write_in_order.ensures
    ∙ ap (λ text. text ++ csv_text (map (scene_fields (length c.actors-actors.result.now)) (map (scene_in (map scene_data c.scenes-scenes.result.now)) order))) one
    ∙ (λ i. heads ++ csv_text (map (scene_fields (count i)) (map (scene_in (scenes i)) order))) in
    let three : c.write_pairs.new.text ≡ canonical_text moved
    = c.in_ok-write_pairs.ensures
    ∙ ap (λ text. text ++ csv_text (map (pair_fields (map (λ (scene : SceneData). scene.name) (map scene_data c.scenes-scenes.result.now))) c.pairs.result.now)) two
    ∙ (λ i. (heads ++ csv_text (map (scene_fields n) moved.scenes)) ++ csv_text (map (pair_fields (map (λ (scene : SceneData). scene.name) (scenes i))) (pairs i)))
    ∙ ap (λ rows. (heads ++ csv_text (map (scene_fields n) moved.scenes)) ++ csv_text rows) (rows_of_pairs inst order c.requires inst.pairs c.scenes-scenes.ensures.limits.pairs.known)
    ∙ whole moved in
    IfOk-weaker c.into_bytes.result (λ text. text.items ≡ c.write_pairs.new.text) (λ text. text.items ≡ canonical_text moved) (λ text same. same ∙ three) c.into_bytes.ensures

pub returns-clause-reads_back : goal.returns-clause-reads_back
returns-clause-reads_back c =
    let inst = c.args.inst.now in
    let order = c.args.order.now in
    IfOk-weaker c.into_bytes.result (λ text. text.items ≡ canonical_text (arranged inst order)) (λ text. HasReadableNames inst → says text.items ≡ Ok (arranged inst order))
    (λ text is names. ap says is ∙ says_it (arranged inst order) (arranged_is inst order c.requires c.scenes-scenes.ensures.limits)
    (arranged_names inst order c.requires
    (text_names inst c.scenes-scenes.result.now c.actors-actors.result.now c.scenes-scenes.ensures.scenes c.actors-actors.ensures.actors names)))
    (returns-clause-canonical c)
