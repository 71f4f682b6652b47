use Rattle.std.proofs.Common.{◌≡◌, ◌↔◌, IsTrue, Any, Some, rules}
use Rattle.strip_words.specs.Shown.{valued_name}
use Rattle.strip_words.proofs.Members.{any_kept}
use Rattle.strip_words.proofs.command.Command.has_valued.Goals as goal

pub returns : goal.returns
returns c =
    let found : IsTrue c.any.result ↔ Any (λ option. valued_name option ≡ Some c.args.name.now) c.args.self.now.options.now = search rules in
    let kept = any_kept valued_name c.args.self.now.options.now c.args.name.now in
    (λ sure. kept.0 (found.0 sure), λ there. found.1 (kept.1 there))
