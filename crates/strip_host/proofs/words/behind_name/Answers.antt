use Rattle.std.proofs.Common.{◌≡◌, drop, refl, sym, ◌∙◌, ap}
use Rattle.std.specs.Vec.Iter.{into_iter_items}
use Rattle.std.proofs.lemmas.List.{map-id}
use Rattle.std.proofs.lemmas.Iterator.{items_from_drains}
use Rattle.std.proofs.lemmas.Iterator.Adapters.{YieldsList-from_vec}
use Rattle.strip_host.proofs.Behind.{behind_first}
use Rattle.strip_host.proofs.words.behind_name.Goals as goal

pub returns-in_ok-collect-in-Ok-clause-words : goal.returns-in_ok-collect-in-Ok-clause-words
returns-in_ok-collect-in-Ok-clause-words c = λ all is.
    let rest = c.next.new.self in
    let ran = c.in_ok-collect-in-Ok.ensures.ran in
    let items = items_from_drains ran.0 ran.1 (YieldsList-from_vec (into_iter_items rest) refl rest.rest.ok.0) in
    let same : c.in-Ok.words ≡ all = cc (c.in-Ok.is, is) in
    ran.2.0 ∙ sym (map-id ran.0) ∙ items ∙ behind_first c.in-Ok.words rest c.next.result c.next.ensures.cases ∙ ap (λ words. drop 1 (into_iter_items words)) same
