use Rattle.std.proofs.Common.{subst}
use Rattle.strip_answer.specs.Both.{AreSaid}
use Rattle.strip_answer.proofs.Due.{given_due, refused_due}
use Rattle.strip_answer.proofs.both.answer_plan.Goals as goal

pub answer-requires-clause-said : goal.answer-requires-clause-said
answer-requires-clause-said g c = (subst AreSaid c.in-Said.is c.in_ok-inst.ensures.said).0

pub answer-requires-clause-readable : goal.answer-requires-clause-readable
answer-requires-clause-readable g c = (subst AreSaid c.in-Said.is c.in_ok-inst.ensures.said).1

pub returns-in_ok-answer-in-Said-clause-due : goal.returns-in_ok-answer-in-Said-clause-due
returns-in_ok-answer-in-Said-clause-due g c =
    given_due g.J.PlanJob.Due _ _ _ _ c.in_ok-inst.field-0 c.in-Said.inst c.in-Said.plan _ _ c.in-Said.is (λ said readable. c.in_ok-answer-in-Said.ensures) c.in_ok-inst.ensures.given

pub returns-in-Refused-clause-due : goal.returns-in-Refused-clause-due
returns-in-Refused-clause-due g c = refused_due g.J.PlanJob.Due _ _ _ _ c.in_ok-inst.field-0 c.in-Refused.answer c.in-Refused.is c.in_ok-inst.ensures.given
