use Rattle.std.proofs.Common.{◌≡◌, ◌++◌, length, map, ap, ◌∙◌, Ok}
use Rattle.std.proofs.lemmas.Result.{IfOk-weaker}
use Rattle.strip_text.specs.Rows.{csv_text}
use Rattle.strip_model.specs.Data.{SceneData}
use Rattle.strip_model.specs.Instance.{actor_data, scene_data}
use Rattle.strip_instance.specs.Text.{HasReadableNames, says}
use Rattle.strip_instance.specs.Canonical.{canonical_text, head_rows, pair_fields, scene_fields}
use Rattle.strip_instance.proofs.back.Back.{says_it}
use Rattle.strip_instance.proofs.back.TextNames.{text_names}
use Rattle.strip_instance.proofs.back.Written.{whole}
use Rattle.strip_instance.proofs.writing.write_instance.Goals as goal

pub returns-clause-canonical : goal.returns-clause-canonical
returns-clause-canonical c =
    let inst = c.args.inst.now in
    let n = length inst.actors in
    let heads = csv_text (head_rows inst.actors) in
    let scenes : map scene_data c.scenes-scenes.result.now ≡ inst.scenes = c.scenes-scenes.ensures.scenes in
    let count : length c.actors-actors.result.now ≡ n = c.actors-actors.ensures.count in
    let pairs : c.pairs.result.now ≡ inst.pairs = c.pairs.ensures.pairs in
    let one : c.write_heads.new.text ≡ heads
    = c.in_ok-write_heads.ensures ∙ ap (λ text. text ++ csv_text (head_rows (map actor_data c.actors-actors.result.now))) c.new-text.ensures
    ∙ ap (λ actors. csv_text (head_rows actors)) c.actors-actors.ensures.actors in
    let two : c.write_scenes.new.text ≡ heads ++ csv_text (map (scene_fields n) inst.scenes)
    = c.in_ok-write_scenes.ensures
    ∙ ap (λ text. text ++ csv_text (map (scene_fields (length c.actors-actors.result.now)) (map scene_data c.scenes-scenes.result.now))) one
    ∙ (λ i. heads ++ csv_text (map (scene_fields (count i)) (scenes i))) in
    let three : c.write_pairs.new.text ≡ canonical_text inst
    = c.in_ok-write_pairs.ensures
    ∙ ap (λ text. text ++ csv_text (map (pair_fields (map (λ (scene : SceneData). scene.name) (map scene_data c.scenes-scenes.result.now))) c.pairs.result.now)) two
    ∙ (λ i. (heads ++ csv_text (map (scene_fields n) inst.scenes)) ++ csv_text (map (pair_fields (map (λ (scene : SceneData). scene.name) (scenes i))) (pairs i)))
    ∙ whole inst in
    IfOk-weaker c.into_bytes.result (λ text. text.items ≡ c.write_pairs.new.text) (λ text. text.items ≡ canonical_text inst) (λ text same. same ∙ three) c.into_bytes.ensures

pub returns-clause-reads_back : goal.returns-clause-reads_back
returns-clause-reads_back c =
    let inst = c.args.inst.now in
    IfOk-weaker c.into_bytes.result (λ text. text.items ≡ canonical_text inst) (λ text. HasReadableNames inst → says text.items ≡ Ok inst)
    (λ text is names. ap says is ∙ says_it inst c.scenes-scenes.ensures.limits
    (text_names inst c.scenes-scenes.result.now c.actors-actors.result.now c.scenes-scenes.ensures.scenes c.actors-actors.ensures.actors names))
    (returns-clause-canonical c)
