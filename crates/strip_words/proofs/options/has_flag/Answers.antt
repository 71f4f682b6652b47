use Rattle.std.proofs.Common.{◌≡◌, ◌↔◌, IsTrue, Any, rules}
use Rattle.strip_words.specs.Words.{Flag}
use Rattle.strip_words.specs.Shown.{item_data, items_data}
use Rattle.strip_words.proofs.Members.{any_map, any_contains}
use Rattle.strip_words.proofs.options.has_flag.Goals as goal

pub returns : goal.returns
returns c =
    let found : IsTrue c.any.result ↔ Any (λ item. item_data item ≡ Flag c.args.name.now) c.args.items.now = search rules in
    let mapped = any_map (λ item. item ≡ Flag c.args.name.now) item_data c.args.items.now in
    let there = any_contains (items_data c.args.items.now) (Flag c.args.name.now) in
    (λ sure. there.0 (mapped.0 (found.0 sure)), λ is. found.1 (mapped.1 (there.1 is)))
