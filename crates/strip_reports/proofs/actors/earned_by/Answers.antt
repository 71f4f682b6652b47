use Rattle.std.proofs.Common.{◌*◌, length, arith, sym, ap, ◌∙◌}
use Rattle.strip_model.proofs.Scenes.{hold_at, rate_at}
use Rattle.strip_reports.proofs.Counted.{few_holds}
use Rattle.strip_reports.proofs.Sized.{pay_most}
use Rattle.strip_reports.proofs.actors.earned_by.Goals as goal

pub returns-clause-earned : goal.returns-clause-earned
returns-clause-earned c =
    let actors = c.actors.result.now in
    let known = c.index-actors-actor.result in
    let rate = ap (λ actor. actor.rate) c.index-actors-actor.is ∙ sym (rate_at actors c.args.inst.now.actors c.args.actor known c.actors.ensures.actors c.requires.actor) in
    let hold = ap (λ actor. actor.hold) c.index-actors-actor.is ∙ sym (hold_at actors c.args.inst.now.actors c.args.actor known c.actors.ensures.actors c.requires.actor) in
    λ i. record {
      worked = c.work_days-worked.ensures i;
      work_pay = rate i * c.work_days-worked.ensures i;
      held = c.hold_days-held.ensures i;
      hold_pay = hold i * c.hold_days-held.ensures i;
    }

pub overflow_mul-result : goal.overflow_mul-result
overflow_mul-result c =
    let most = pay_most c.actors.result.now c.args.inst.now.actors c.args.actor c.index-actors-actor.result c.args.crews.now c.work_days-worked.result c.hold_days-held.result
    c.actors.ensures.actors c.requires.actor c.index-actors-actor.is c.actors.ensures.limits.actors c.requires.few c.work_days-worked.ensures c.hold_days-held.ensures in
    omega (arith, most.0)

pub overflow_mul-result-2 : goal.overflow_mul-result-2
overflow_mul-result-2 c =
    let most = pay_most c.actors.result.now c.args.inst.now.actors c.args.actor c.index-actors-actor.result c.args.crews.now c.work_days-worked.result c.hold_days-held.result
    c.actors.ensures.actors c.requires.actor c.index-actors-actor.is c.actors.ensures.limits.actors c.requires.few c.work_days-worked.ensures c.hold_days-held.ensures in
    omega (arith, most.1)

pub returns-clause-work_pay : goal.returns-clause-work_pay
returns-clause-work_pay c =
    let most = pay_most c.actors.result.now c.args.inst.now.actors c.args.actor c.index-actors-actor.result c.args.crews.now c.work_days-worked.result c.hold_days-held.result
    c.actors.ensures.actors c.requires.actor c.index-actors-actor.is c.actors.ensures.limits.actors c.requires.few c.work_days-worked.ensures c.hold_days-held.ensures in
    most.0

pub returns-clause-held : goal.returns-clause-held
returns-clause-held c = omega (arith, c.hold_days-held.ensures, few_holds c.args.crews.now c.args.actor (length c.args.crews.now), c.requires.few)

pub returns-clause-hold_pay : goal.returns-clause-hold_pay
returns-clause-hold_pay c =
    let most = pay_most c.actors.result.now c.args.inst.now.actors c.args.actor c.index-actors-actor.result c.args.crews.now c.work_days-worked.result c.hold_days-held.result
    c.actors.ensures.actors c.requires.actor c.index-actors-actor.is c.actors.ensures.limits.actors c.requires.few c.work_days-worked.ensures c.hold_days-held.ensures in
    most.1
