use Rattle.std.proofs.Common.{◌≡◌, ◌∷◌, ◌++◌, [], codes, sym, ◌∙◌}
use Rattle.std.proofs.lemmas.Result.{on_ok_weaker}
use Rattle.strip_text.specs.Rows.{csv_row, field_of}
use Rattle.strip_instance.specs.Shown.{names_of as scene_names}
use Rattle.strip_instance.proofs.back.Written.{name-at}
use Rattle.strip_instance.proofs.writing.write_pair.Goals as goal

pub returns : goal.returns
returns c =
    let scenes = c.args.scenes.now in
    let pair = c.args.pair.now in
    let first : c.as_bytes-first.result.now ≡ field_of (scene_names scenes) pair.first
    = c.as_bytes-first.ensures.value ∙ sym (name-at scenes pair.first _ c.requires.0) in
    let second : c.as_bytes-then.result.now ≡ field_of (scene_names scenes) pair.then
    = c.as_bytes-then.ensures.value ∙ sym (name-at scenes pair.then _ c.requires.1) in
    on_ok_weaker c.push.result (λ is. is ∙ (λ i. c.args.text.now ++ csv_row (codes "before" ∷ first i ∷ second i ∷ []))) c.push.ensures
