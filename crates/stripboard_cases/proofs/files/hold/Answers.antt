use Rattle.std.proofs.Common.{rules, List, ◌++◌, ◌∷◌, [], string_bytes, refl, ◌∙◌, ap}
use Rattle.std.proofs.lemmas.Fn.{filter_same}
use Rattle.stripboard_cases.specs.declared.case.Held.{Held}
use Rattle.stripboard_cases.proofs.Hands.{is_other, now_held}
use Rattle.stripboard_cases.proofs.files.hold.Goals as goal

pub returns : goal.returns
returns c =
    let kept = filter_same _ (is_other (string_bytes c.args.name)) _ (λ x b f' k. search rules) _ _ c.retain.ensures.filtered in
    let held : Held = record { name = c.args.name; bytes = c.args.bytes } in
    now_held c.args.files.now.items c.push.new.self.items held (string_bytes c.args.name) c.args.bytes.items
    (c.in_ok-push.ensures.items ∙ ap (λ (list : List Held). list ++ held ∷ []) kept) refl refl
