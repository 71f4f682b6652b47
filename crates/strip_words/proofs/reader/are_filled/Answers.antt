use Rattle.std.proofs.Common.{◌≢◌, ◌↔◌, [], IsTrue, All, arith}
use Rattle.std.proofs.lemmas.Grind.{common_steps}
use Rattle.strip_words.proofs.Members.{all_map}
use Rattle.strip_words.proofs.reader.are_filled.Goals as goal

pub returns : goal.returns
returns c =
    let found : IsTrue c.all.result ↔ All (λ word. word.now ≢ []) c.args.words.now = grind (arith, common_steps) in
    let mapped = all_map (λ word. word ≢ []) (λ word. word.now) c.args.words.now in
    (λ sure. mapped.0 (found.0 sure), λ filled. found.1 (mapped.1 filled))
