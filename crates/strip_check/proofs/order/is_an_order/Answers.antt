use Rattle.std.proofs.Common.{length, ap, sym, ◌∙◌}
use Rattle.std.proofs.lemmas.List.{length-map}
use Rattle.strip_check.specs.Reasons.{is_order}
use Rattle.strip_check.proofs.Tests.{same_order}
use Rattle.strip_check.proofs.order.is_an_order.Goals as goal

pub returns : goal.returns
returns c =
    same_order (length c.args.inst.now.scenes) c.args.order.now c.is_order.result c.is_order.ensures
    ∙ ap (λ n. is_order n c.args.order.now) (sym (length-map c.args.inst.now.scenes (λ scene. scene.cast)))
