use Rattle.std.proofs.Common.{sym, ap, subst}
use Rattle.strip_model.specs.declared.scene.Actor.{Actor}
use Rattle.strip_model.specs.Data.{IsActor}
use Rattle.strip_model.specs.Instance.{actor_data}
use Rattle.strip_model.proofs.Scenes.{rate_at, hold_at, actor_is}
use Rattle.strip_reports.proofs.figures.rate_of.Goals as goal

pub returns-then-has-clause-rate : goal.returns-then-has-clause-rate
returns-then-has-clause-rate c =
    rw (← c.has.ensures, c.if-has.true, rate_at c.actors.result.now c.args.inst.now.actors c.args.actor c.index-actors-actor.result c.actors.ensures.actors c.requires)
    (ap (λ (actor : Actor). actor.rate) c.index-actors-actor.is)

pub returns-then-has-clause-small : goal.returns-then-has-clause-small
returns-then-has-clause-small c =
    (subst (λ (actor : Actor). IsActor (actor_data actor)) (sym c.index-actors-actor.is)
    (actor_is c.actors.result.now c.args.inst.now.actors c.args.actor c.index-actors-actor.result c.actors.ensures.actors c.requires c.actors.ensures.limits.actors)).rate

pub returns-then-has-2-clause-rate : goal.returns-then-has-2-clause-rate
returns-then-has-2-clause-rate c =
    rw (
      ← c.has.ensures,
      c.if-has.false,
      ← c.has-else-has.ensures,
      c.if-has-2.true,
      hold_at c.actors.result.now c.args.inst.now.actors c.args.actor c.index-actors-actor.result c.actors.ensures.actors c.requires,
    )
    (ap (λ (actor : Actor). actor.hold) c.index-actors-actor.is)

pub returns-then-has-2-clause-small : goal.returns-then-has-2-clause-small
returns-then-has-2-clause-small c =
    (subst (λ (actor : Actor). IsActor (actor_data actor)) (sym c.index-actors-actor.is)
    (actor_is c.actors.result.now c.args.inst.now.actors c.args.actor c.index-actors-actor.result c.actors.ensures.actors c.requires c.actors.ensures.limits.actors)).hold
