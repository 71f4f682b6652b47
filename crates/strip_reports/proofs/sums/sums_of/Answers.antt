use Rattle.std.proofs.Common.{◌+◌, ◌*◌, length, arith, sym, ap, ◌∙◌}
use Rattle.strip_model.proofs.Scenes.{hold_at, rate_at}
use Rattle.strip_reports.proofs.Counted.{few_holds}
use Rattle.strip_reports.proofs.Sized.{pay_most}
use Rattle.strip_reports.proofs.sums.sums_of.Goals as goal

pub returns-clause-sums : goal.returns-clause-sums
returns-clause-sums c =
    let actors = c.actors.result.now in
    let known = c.index-actors-actor.result in
    let rate = ap (λ actor. actor.rate) c.index-actors-actor.is ∙ sym (rate_at actors c.args.inst.now.actors c.args.actor known c.actors.ensures.actors c.requires.actor) in
    let hold = ap (λ actor. actor.hold) c.index-actors-actor.is ∙ sym (hold_at actors c.args.inst.now.actors c.args.actor known c.actors.ensures.actors c.requires.actor) in
    λ i. record {
      work = c.work_days-work.ensures i;
      hold = c.hold_days-hold.ensures i;
      pay = rate i * c.work_days-work.ensures i + hold i * c.hold_days-hold.ensures i;
    }

pub returns-clause-hold : goal.returns-clause-hold
returns-clause-hold c = omega (arith, c.hold_days-hold.ensures, few_holds c.args.crews.now c.args.actor (length c.args.crews.now), c.requires.few)

pub overflow_mul-result : goal.overflow_mul-result
overflow_mul-result c =
    let most = pay_most c.actors.result.now c.args.inst.now.actors c.args.actor c.index-actors-actor.result c.args.crews.now c.work_days-work.result c.hold_days-hold.result
    c.actors.ensures.actors c.requires.actor c.index-actors-actor.is c.actors.ensures.limits.actors c.requires.few c.work_days-work.ensures c.hold_days-hold.ensures in
    omega (arith, most.0)

pub overflow_mul-result-2 : goal.overflow_mul-result-2
overflow_mul-result-2 c =
    let most = pay_most c.actors.result.now c.args.inst.now.actors c.args.actor c.index-actors-actor.result c.args.crews.now c.work_days-work.result c.hold_days-hold.result
    c.actors.ensures.actors c.requires.actor c.index-actors-actor.is c.actors.ensures.limits.actors c.requires.few c.work_days-work.ensures c.hold_days-hold.ensures in
    omega (arith, most.1)

pub overflow_add-result : goal.overflow_add-result
overflow_add-result c =
    let most = pay_most c.actors.result.now c.args.inst.now.actors c.args.actor c.index-actors-actor.result c.args.crews.now c.work_days-work.result c.hold_days-hold.result
    c.actors.ensures.actors c.requires.actor c.index-actors-actor.is c.actors.ensures.limits.actors c.requires.few c.work_days-work.ensures c.hold_days-hold.ensures in
    omega (arith, most.0, most.1)

pub returns-clause-pay : goal.returns-clause-pay
returns-clause-pay c =
    let most = pay_most c.actors.result.now c.args.inst.now.actors c.args.actor c.index-actors-actor.result c.args.crews.now c.work_days-work.result c.hold_days-hold.result
    c.actors.ensures.actors c.requires.actor c.index-actors-actor.is c.actors.ensures.limits.actors c.requires.few c.work_days-work.ensures c.hold_days-hold.ensures in
    omega (arith, most.0, most.1)
