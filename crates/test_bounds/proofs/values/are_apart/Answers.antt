use Rattle.std.proofs.Common.{◌∙◌, ℕ, ap, sym}
use Rattle.std.proofs.lemmas.Bool.{false_from_ne_true, false≢true}
use Rattle.strip_mask.specs.Set.{has}
use Rattle.strip_mask.proofs.Below.{and_true}
use Rattle.strip_mask.proofs.ByMembers.{has-empty, has-meet}
use Rattle.test_bounds.proofs.values.are_apart.Goals as goal

pub returns : goal.returns
returns c = λ apart actor there. false_from_ne_true (has c.args.group.0 actor) (λ also.
    false≢true (sym (has-empty actor) ∙ ap (λ (s : ℕ). has s actor) (sym (c.is_empty.ensures.0 apart) ∙ c.meet.ensures) ∙ has-meet c.args.group.0 c.args.newcomers.0 actor
    ∙ and_true (has c.args.group.0 actor) (has c.args.newcomers.0 actor) also there))
