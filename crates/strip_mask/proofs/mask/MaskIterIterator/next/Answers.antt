use Rattle.std.proofs.Common.{ap, ◌∙◌, arith}
use Rattle.std.proofs.lemmas.Grind.{common_steps}
use Rattle.strip_mask.specs.Set.{IsSet, members}
use Rattle.strip_mask.proofs.Members.{members-empty}
use Rattle.strip_mask.proofs.Sizes.{members_step}
use Rattle.strip_mask.proofs.mask.MaskIterIterator.next.Goals as goal

pub returns-then-self-eq0-clause-steps : goal.returns-then-self-eq0-clause-steps
returns-then-self-eq0-clause-steps c = let none = ap members c.if-self-eq0.true ∙ members-empty in (none, none)

pub returns-clause-steps : goal.returns-clause-steps
returns-clause-steps c = members_step c.args.self.now.rest (omega arith) c.if-self-eq0.false

pub returns-clause-goes : goal.returns-clause-goes
returns-clause-goes c =
    let small : IsSet c.args.self.now.rest = omega arith in
    let step = members_step c.args.self.now.rest small c.if-self-eq0.false in
    grind (arith, common_steps)
