use Rattle.std.proofs.Common.{◌≡◌, ◌↔◌, IsTrue, Any, Some, rules}
use Rattle.strip_words.specs.Words.{option_of}
use Rattle.strip_words.specs.Shown.{item_data, items_data}
use Rattle.strip_words.proofs.Members.{any_map, any_kept}
use Rattle.strip_words.proofs.reader.has_option.Goals as goal

pub returns : goal.returns
returns c =
    let found : IsTrue c.any.result ↔ Any (λ item. option_of (item_data item) ≡ Some c.args.name.now) c.args.items.now = search rules in
    let mapped = any_map (λ item. option_of item ≡ Some c.args.name.now) item_data c.args.items.now in
    let kept = any_kept option_of (items_data c.args.items.now) c.args.name.now in
    (λ sure. kept.0 (mapped.0 (found.0 sure)), λ there. found.1 (mapped.1 (kept.1 there)))
