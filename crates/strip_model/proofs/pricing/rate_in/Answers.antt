use Rattle.std.proofs.Common.{sym, ap, subst}
use Rattle.strip_model.specs.declared.scene.Actor.{Actor}
use Rattle.strip_model.specs.Data.{IsActor}
use Rattle.strip_model.specs.Instance.{actor_data}
use Rattle.strip_model.proofs.Scenes.{rate_at, hold_at, actor_is}
use Rattle.strip_model.proofs.pricing.rate_in.Goals as goal

pub returns-then-works_in-clause-rate : goal.returns-then-works_in-clause-rate
returns-then-works_in-clause-rate c =
    rw (← c.works_in.ensures, c.if-works_in.true, rate_at c.actors.result.now c.args.inst.now.actors c.args.actor c.index-actors-actor.result c.actors.ensures.actors c.requires.actor)
    (ap (λ (actor : Actor). actor.rate) c.index-actors-actor.is)

pub returns-then-works_in-clause-small : goal.returns-then-works_in-clause-small
returns-then-works_in-clause-small c =
    (subst (λ (actor : Actor). IsActor (actor_data actor)) (sym c.index-actors-actor.is)
    (actor_is c.actors.result.now c.args.inst.now.actors c.args.actor c.index-actors-actor.result c.actors.ensures.actors c.requires.actor c.actors.ensures.limits.actors)).rate

pub returns-else-works_in-clause-rate : goal.returns-else-works_in-clause-rate
returns-else-works_in-clause-rate c =
    rw (← c.works_in.ensures, c.if-works_in.false, hold_at c.actors.result.now c.args.inst.now.actors c.args.actor c.index-actors-actor.result c.actors.ensures.actors c.requires.actor)
    (ap (λ (actor : Actor). actor.hold) c.index-actors-actor.is)

pub returns-else-works_in-clause-small : goal.returns-else-works_in-clause-small
returns-else-works_in-clause-small c =
    (subst (λ (actor : Actor). IsActor (actor_data actor)) (sym c.index-actors-actor.is)
    (actor_is c.actors.result.now c.args.inst.now.actors c.args.actor c.index-actors-actor.result c.actors.ensures.actors c.requires.actor c.actors.ensures.limits.actors)).hold
