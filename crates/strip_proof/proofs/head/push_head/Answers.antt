use Rattle.std.proofs.Common.{◌≡◌, ◌∙◌, ◌∷◌, ◌++◌, [], ℕ, List, map, codes, ap}
use Rattle.std.proofs.lemmas.Result.{on_ok_weaker}
use Rattle.strip_model.specs.Data.{scene_name}
use Rattle.strip_text.specs.Field.{Field}
use Rattle.strip_text.specs.Rows.{csv_row, csv_text}
use Rattle.strip_proof.specs.Plan.{plan_data}
use Rattle.strip_proof.specs.Rows.{head_rows}
use Rattle.strip_proof.proofs.Regrouped.{eight_rows}
use Rattle.strip_proof.proofs.head.push_head.Goals as goal

pub returns : goal.returns
returns c =
    let bounds = c.in_ok-push_word-2.ensures ∙ ap (λ (word : Field). c.push_word.new.text ++ csv_row (codes "bounds" ∷ word ∷ [])) c.kind_word.ensures in
    let status = c.in_ok-push_word-3.ensures ∙ ap (λ (word : Field). c.push_word-2.new.text ++ csv_row (codes "status" ∷ word ∷ [])) c.status_word.ensures in
    let order = c.in_ok-push_order.ensures ∙ ap (λ (scenes : List ℕ). c.push_number-3.new.text ++ csv_row (codes "order" ∷ map (scene_name c.args.inst.now) scenes)) c.deref.ensures.value in
    on_ok_weaker c.push_number-4.result
    (λ last. eight_rows _ _ _ _ _ _ _ _ _ _ _ _ _ _ _ _ _ c.requires.none c.in_ok-push_word.ensures bounds status
    c.in_ok-push_number.ensures c.in_ok-push_number-2.ensures c.in_ok-push_number-3.ensures order last)
    c.push_number-4.ensures
