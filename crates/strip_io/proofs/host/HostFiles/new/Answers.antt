use Rattle.std.proofs.Common.{◌≡◌, ℕ, ◌<◌, ◌↔◌, List, [], length, take, map, string_bytes, String, Global, IsTrue, ◌∙◌, subst, arith}
use Rattle.std.specs.List.{Contains}
use Rattle.std.proofs.lemmas.List.{take_all}
use Rattle.strip_io.specs.Held.{is_held, put}
use Rattle.strip_io.proofs.Names.{held_more, faults_put, came_put, words_more}
use Rattle.strip_io.proofs.host.HostFiles.new.Goals as goal

pub loop-word-preserved : goal.loop-word-preserved
loop-word-preserved g c =
    let words = c.args.words.now in
    let i = c.loop-word.word-index in
    let seen = map string_bytes (take i words) in
    let word = string_bytes c.word-item.result in
    let after : c.put.new.self ≡ put c.loop-word.table word [] =
    subst (λ (w : List ℕ). c.put.new.self ≡ put c.loop-word.table w []) c.as_str.ensures.value c.in_ok-put.ensures.ok in
    let within : i < length words = omega arith in
    let more = words_more words i c.word-item.result within c.word-item.is in
    record {
      held = λ name. rw after (subst (λ (l : List (List ℕ)). IsTrue (is_held (put c.loop-word.table word []) name) ↔ Contains l name) more (held_more c.loop-word.table seen word [] c.loop-word.invariant.held name));
      unfailed = λ name. rw after (faults_put c.loop-word.table word [] name ∙ c.loop-word.invariant.unfailed name);
      none_came = λ name. rw after (came_put c.loop-word.table word [] name ∙ c.loop-word.invariant.none_came name);
    }

pub returns-clause-words : goal.returns-clause-words
returns-clause-words g c = λ name.
    let whole : take c.loop-word.word-index c.args.words.now ≡ c.args.words.now = take_all _ _ (omega arith) in
    subst (λ (l : List (String Global)). IsTrue (is_held c.loop-word.table name) ↔ Contains (map string_bytes l) name) whole (c.loop-word.invariant.held name)
